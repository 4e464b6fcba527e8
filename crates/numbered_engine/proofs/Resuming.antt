-- A RUN THAT PASSES HELD CONTEXTS BY finds what is derived: all edges of contexts that aren't held, and of each held one whether its frame begins.
use Rattle.std.proofs.Common.{◌≡◌, ◌∙◌, ◌↔◌, refl, sym, ap, subst, Bool, true, false, List, [], ◌∷◌, ◌++◌, map, Option, Some, None, Contains, inl, inr, ◌⊎◌, true≢false}
use Rattle.std.specs.Prelude.{is_some, cond, option_and_then}
use Rattle.std.specs.Option.{option_map_or}
use Rattle.std.proofs.lemmas.List.Elements.{Contains-append_left, Contains-append_right, Contains-append_cases}
use Rattle.std.proofs.lemmas.Option.{none-some}
use Rattle.least_set.specs.Logs.{IsExactly}
use Rattle.least_set.specs.TwoPremises.{Follows, FollowsBase, FollowsOne, FollowsTwo, Least, LeastBase, LeastOne, LeastTwo}
use Rattle.least_set.proofs.Growing.{nothing}
use Rattle.row_flows.proofs.Lists.{of_map, of_present, the_one}
use Rattle.row_flows.specs.Choices.{bare}
use Rattle.row_flows.specs.Numbers.{is_own}
use Rattle.row_flows.specs.declared.tuples.NumberedTuple.{NumberedTuple}
use Rattle.numbered_engine.proofs.AtEnds.{call_there, exits, of_led, of_waiting}
use Rattle.numbered_engine.proofs.Stable.{edge_itself}
use Rattle.numbered_engine.specs.Following.{at, context, first, led, led_from, passed}
use Rattle.numbered_engine.specs.Held.{AreRight, GoesOn, Held, WaitsOn, first_of, held_at, is_first, is_held, passed_by}
use Rattle.numbered_engine.specs.Program.{block_at, call_at}
use Rattle.numbered_engine.specs.Rules.{Begins, FollowsFrom, IsDerived, IsEndOf, IsWoken, LeadsTo, WaitsAt}
use Rattle.numbered_engine.specs.Waiting.{Waits, ended_in, on, tuples_behind, waiter, waiting_at, waits_for, waits_with, woken_at}
use Rattle.numbered_engine.specs.Ways.Equality.{same_edge}
use Rattle.numbered_engine.specs.declared.edges.NumberedContext.{NumberedContext}
use Rattle.numbered_engine.specs.declared.edges.NumberedEdge.{NumberedEdge}
use Rattle.numbered_engine.specs.declared.edges.NumberedWaiter.{NumberedWaiter}
use Rattle.numbered_engine.specs.declared.held.HeldContext.{HeldContext}
use Rattle.numbered_engine.specs.declared.program.Block.{Block}
use Rattle.numbered_engine.specs.declared.program.Call.{Call}
use Rattle.numbered_engine.specs.declared.program.Ending.{Ending}
use Rattle.numbered_engine.specs.declared.program.Ending.TheVariants as ending
use Rattle.numbered_engine.specs.declared.program.ProgramRows.{ProgramRows}

-- an edge is an end of its own context
end_own : (p : ProgramRows) (b : NumberedEdge) (k : NumberedContext) → IsEndOf p b k → b.context ≡ k
end_own p b k h = by (block_at p b.context.function b.block) h
  where
    by : (o : Option Block) → option_and_then (λ (s : Block). ended_in b s.ending) o ≡ Some k → b.context ≡ k
    by None g = absurd (none-some k g)
    by (Some s) g = (exits b s.ending k g).1

-- a frame waits at its own edges
waiter_own : (p : ProgramRows) (a : NumberedEdge) (k : NumberedContext) (w : NumberedWaiter) → WaitsAt p a k w → w.context ≡ a.context
waiter_own p a k w h = let s = of_waiting p a k w h in by s.block.ending s.end s.waits
  where
    saving : (b : Bool) (c : Call) (t : NumberedTuple) → Contains (cond b (on (context c.callee (bare t.global)) (waiter a t) ∷ []) []) (on k w) → w.context ≡ a.context
    saving true c t m = ap (λ (x : Waits). x.waiter.context) (sym (the_one (on (context c.callee (bare t.global)) (waiter a t)) (on k w) m))
    saving false c t m = absurd (nothing (on k w) m)

    by : (e : Ending) (t : NumberedTuple) → Contains (waiting_at a e t) (on k w) → w.context ≡ a.context
    by (ending.Next bs) t m = absurd (nothing (on k w) m)
    by (ending.Calls c) t m = elim (Contains-append_cases (map (waits_for a c) (passed c.entered.items t)) (waits_with a c t) (on k w) m) [
      | inl handed ↦ let s = of_map (waits_for a c) (passed c.entered.items t) (on k w) handed in ap (λ (x : Waits). x.waiter.context) (sym s.2)
      | inr saved ↦ saving (is_own c.saved.items t.object) c t saved
    ]
    by ending.Exit t m = absurd (nothing (on k w) m)

-- what a waiter and an end give stands in the waiter's frame
woken_own : (p : ProgramRows) (w : NumberedWaiter) (b e : NumberedEdge) → IsWoken p w b e → e.context ≡ w.context
woken_own p w b e h =
    let c = of_present (woken_at w b.tuple) (call_at p w.context.function w.block) e h in
    let s = of_map (λ t. at w.context t c.0.behind) (tuples_behind c.0 w.saved b.tuple) e c.2 in
    ap (λ (x : NumberedEdge). x.context) (sym s.2)

-- an edge leads on in its frame, or a call of its block begins another
abbrev BeginsAnother : ProgramRows → NumberedEdge → NumberedEdge → Type 0
BeginsAnother p a e = (c : Call) × (call_at p a.context.function a.block ≡ Some c) × (e ≡ first_of e.context)

leads_own : (p : ProgramRows) (a e : NumberedEdge) → LeadsTo p a e → (e.context ≡ a.context) ⊎ BeginsAnother p a e
leads_own p a e h = let s = of_led p a e h in by s.block.ending s.end (call_there p a s.rows s.block s.there) s.leads
  where
    by : (x : Ending) (t : NumberedTuple) → ((c : Call) → x ≡ ending.Calls c → call_at p a.context.function a.block ≡ Some c) → Contains (led_from a.context x t) e → (e.context ≡ a.context) ⊎ BeginsAnother p a e
    by (ending.Next bs) t called m = let s = of_map (at a.context t) bs.items e m in inl (ap (λ (x : NumberedEdge). x.context) (sym s.2))
    by (ending.Calls c) t called m = let s = of_map (first c.callee) (passed c.entered.items t) e m in inr (c, called c refl, subst (λ x. x ≡ first_of x.context) s.2 refl)
    by ending.Exit t called m = absurd (nothing e m)

first_is : (e : NumberedEdge) → is_first e ≡ true → e ≡ first_of e.context
first_is e h = same_edge e (first_of e.context) h

-- what such a run finds
abbrev pub IsFound : ProgramRows → Held → NumberedEdge → Type 0
IsFound p h = Least (Begins p) (GoesOn p h) (WaitsOn p h) (IsEndOf p) (IsWoken p)

module _ (p : ProgramRows) (h : Held) (right : AreRight p h) where
  goes_derived : (a e : NumberedEdge) → IsDerived p a → GoesOn p h a e → IsDerived p e
  goes_derived a e d m = by (held_at h a.context) refl m
    where
      passed_on : (c : HeldContext) (b : Bool) → held_at h a.context ≡ Some c → is_first a ≡ b → Contains (cond b (c.ends.items ++ c.calls.items) []) e → IsDerived p e
      passed_on c false is f n = absurd (nothing e n)
      passed_on c true is f n =
          let r = right.contexts a.context c is (subst (IsDerived p) (first_is a f) d) in
          elim (Contains-append_cases c.ends.items c.calls.items e n) [
            | inl x ↦ (r.ends.0 e x).0
            | inr x ↦ let s = r.calls.0 e x in LeastOne s.3 s.5
          ]

      by : (o : Option HeldContext) → held_at h a.context ≡ o → Contains (option_map_or (passed_by a) o (led p a)) e → IsDerived p e
      by None is n = LeastOne d n
      by (Some c) is n = passed_on c (is_first a) is refl n

  -- all that is found is derived
  pub found_derived : (e : NumberedEdge) → IsFound p h e → IsDerived p e
  found_derived e (LeastBase b) = LeastBase b
  found_derived e (LeastOne {a = a} f g) = goes_derived a e (found_derived a f) g
  found_derived e (LeastTwo {a = a} {b = b} f w g end wake) = LeastTwo (found_derived a f) w.1 (found_derived b g) end wake

  -- from the first edge of a held context all is found that is held of it
  from_first : (k : NumberedContext) (c : HeldContext) → held_at h k ≡ Some c → IsFound p h (first_of k) → (e : NumberedEdge) → Contains (c.ends.items ++ c.calls.items) e → IsFound p h e
  from_first k c is f e m =
      let all = subst (λ b. Contains (cond b (c.ends.items ++ c.calls.items) []) e) (sym (edge_itself (first_of k))) m in
      LeastOne f (subst (λ o. Contains (option_map_or (passed_by (first_of k)) o (led p (first_of k))) e) (sym is) all)

  -- what is to be shown of a derived edge: it is found, or its frame is held and found to begin
  record Comes (e : NumberedEdge) : Type 0 where
    found : is_held h e.context ≡ false → IsFound p h e
    begins : is_held h e.context ≡ true → IsFound p h (first_of e.context)

  within : (a e : NumberedEdge) → e.context ≡ a.context → is_held h a.context ≡ true → IsFound p h (first_of a.context) → Comes e
  within a e same held f = record {
    found = λ fresh. absurd (true≢false (sym held ∙ ap (is_held h) (sym same) ∙ fresh));
    begins = λ _. subst (λ k. IsFound p h (first_of k)) (sym same) f;
  }

  beside : (a e : NumberedEdge) → e.context ≡ a.context → is_held h a.context ≡ false → IsFound p h e → Comes e
  beside a e same fresh f = record {
    found = λ _. f;
    begins = λ held. absurd (true≢false (sym held ∙ ap (is_held h) same ∙ fresh));
  }

  first_comes : (e : NumberedEdge) → e ≡ first_of e.context → IsFound p h e → Comes e
  first_comes e is f = record { found = λ _. f; begins = λ _. subst (IsFound p h) is f }

  one_comes : (a e : NumberedEdge) → IsDerived p a → Comes a → LeadsTo p a e → Comes e
  one_comes a e d comes leads = by (held_at h a.context) refl (leads_own p a e leads)
    where
      by : (o : Option HeldContext) → held_at h a.context ≡ o → (e.context ≡ a.context) ⊎ BeginsAnother p a e → Comes e
      by None is way =
          let f : IsFound p h e = LeastOne (comes.found (ap is_some is)) (subst (λ o. Contains (option_map_or (passed_by a) o (led p a)) e) (sym is) leads) in
          elim way [
            | inl same ↦ beside a e same (ap is_some is) f
            | inr new ↦ first_comes e new.2 f
          ]
      by (Some c) is way =
          let held = ap is_some is in
          let begun = comes.begins held in
          let r = right.contexts a.context c is (found_derived (first_of a.context) begun) in
          elim way [
            | inl same ↦ within a e same held begun
            | inr new ↦ first_comes e new.2 (from_first a.context c is begun e (Contains-append_right c.ends.items c.calls.items e (r.calls.1 e (a, new.0, refl, d, new.1, leads))))
          ]

  end_found : (b : NumberedEdge) (k : NumberedContext) → IsDerived p b → Comes b → IsEndOf p b k → IsFound p h b
  end_found b k d comes end = by (held_at h b.context) refl
    where
      by : (o : Option HeldContext) → held_at h b.context ≡ o → IsFound p h b
      by None is = comes.found (ap is_some is)
      by (Some c) is =
          let begun = comes.begins (ap is_some is) in
          let r = right.contexts b.context c is (found_derived (first_of b.context) begun) in
          let own = subst (IsEndOf p b) (sym (end_own p b k end)) end in
          from_first b.context c is begun b (Contains-append_left c.ends.items c.calls.items b (r.ends.1 b (d, own)))

  two_comes : (a b e : NumberedEdge) (k : NumberedContext) (w : NumberedWaiter) → Comes a → IsFound p h b → WaitsAt p a k w → IsEndOf p b k → IsWoken p w b e → Comes e
  two_comes a b e k w comes f waits end wake = by (held_at h a.context) refl
    where
      same : e.context ≡ a.context
      same = woken_own p w b e wake ∙ waiter_own p a k w waits

      by : (o : Option HeldContext) → held_at h a.context ≡ o → Comes e
      by None is = let fresh = ap is_some is in beside a e same fresh (LeastTwo (comes.found fresh) (is, waits) f end wake)
      by (Some c) is = let held = ap is_some is in within a e same held (comes.begins held)

  derived_comes : (e : NumberedEdge) → IsDerived p e → Comes e
  derived_comes e (LeastBase b) = record { found = λ _. LeastBase b; begins = λ held. subst (IsFound p h) (first_is e (right.begun e b held)) (LeastBase b) }
  derived_comes e (LeastOne {a = a} d leads) = one_comes a e d (derived_comes a d) leads
  derived_comes e (LeastTwo {a = a} {b = b} {k = k} {w = w} d waits g end wake) = two_comes a b e k w (derived_comes a d) (end_found b k g (derived_comes b g) end) waits end wake

  -- A LOG that has what follows by the rules of such a run, and nothing else
  module _ (log : List NumberedEdge) (closed : (e : NumberedEdge) → Follows (Begins p) (GoesOn p h) (WaitsOn p h) (IsEndOf p) (IsWoken p) log e → Contains log e) (only : (e : NumberedEdge) → Contains log e → IsFound p h e) where
    found_listed : (e : NumberedEdge) → IsFound p h e → Contains log e
    found_listed e (LeastBase b) = closed e (FollowsBase b)
    found_listed e (LeastOne {a = a} f g) = closed e (FollowsOne a (found_listed a f) g)
    found_listed e (LeastTwo {a = a} {b = b} {k = k} {w = w} f waits g end wake) = closed e (FollowsTwo a b k w (found_listed a f) waits (found_listed b g) end wake)

    -- of held contexts too the log has nothing else
    pub derived_alone : (e : NumberedEdge) → Contains log e → IsDerived p e
    derived_alone e m = found_derived e (only e m)

    pub fresh_listed : (e : NumberedEdge) → is_held h e.context ≡ false → Contains log e ↔ IsDerived p e
    fresh_listed e fresh = (derived_alone e, λ d. found_listed e ((derived_comes e d).found fresh))

    pub begun_listed : (k : NumberedContext) → Contains log (first_of k) ↔ IsDerived p (first_of k)
    begun_listed k = (derived_alone (first_of k), λ d. by (is_held h k) refl (derived_comes (first_of k) d))
      where
        by : (b : Bool) → is_held h k ≡ b → Comes (first_of k) → Contains log (first_of k)
        by true held comes = found_listed (first_of k) (comes.begins held)
        by false fresh comes = found_listed (first_of k) (comes.found fresh)

-- where nothing is held, all is right
pub none_right : (p : ProgramRows) → AreRight p []
none_right p = record { contexts = λ k c is _. absurd (none-some c is); begun = λ e b held. absurd (true≢false (sym held)) }

-- and a run finds just what is derived
module _ (p : ProgramRows) (h : Held) (none : h ≡ []) (log : List NumberedEdge) (fresh : (e : NumberedEdge) → is_held h e.context ≡ false → Contains log e ↔ IsDerived p e) where
  exact : (e : NumberedEdge) → Contains log e ↔ IsDerived p e
  exact e = fresh e (ap (λ g. is_held g e.context) none)

  pub derived_only : (e : NumberedEdge) → Contains log e → IsDerived p e
  derived_only e m = (exact e).0 m

  pub derived_closed : (e : NumberedEdge) → FollowsFrom p log e → Contains log e
  derived_closed e (FollowsBase b) = (exact e).1 (LeastBase b)
  derived_closed e (FollowsOne a m leads) = (exact e).1 (LeastOne ((exact a).0 m) leads)
  derived_closed e (FollowsTwo a b k w m waits n end wake) = (exact e).1 (LeastTwo ((exact a).0 m) waits ((exact b).0 n) end wake)

-- WHAT AN EDGE GIVES
module _ (p : ProgramRows) (h : Held) (e : NumberedEdge) where
  pub held_gives : (c : HeldContext) → held_at h e.context ≡ Some c → IsExactly (passed_by e c) (GoesOn p h e)
  held_gives c is = subst (λ o. IsExactly (passed_by e c) (Contains (option_map_or (passed_by e) o (led p e)))) (sym is) (λ x m. m, λ x m. m)

  pub fresh_gives : (xs : List NumberedEdge) → held_at h e.context ≡ None → IsExactly xs (LeadsTo p e) → IsExactly xs (GoesOn p h e)
  fresh_gives xs is exactly = subst (λ o. IsExactly xs (Contains (option_map_or (passed_by e) o (led p e)))) (sym is) exactly
