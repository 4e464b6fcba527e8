use Rattle.path_edges.proofs.edge_steps.put_back.put_back_edge.Goals as goal

pub returns : goal.returns
returns c = λ i. record { context = c.copy_context.ensures i; is_root = c.args.waiter.now.is_root; block = c.args.waiter.now.behind; tuple = c.put_back.ensures i }
