use Rattle.path_theory.specs.FlowGraphs.{supergraph}
use Rattle.path_theory.specs.Numbered.{model, origins_of, graphs_of, objects_of, exits_of}
use Rattle.path_theory.proofs.NumberedLaws.{numbered_local}
use Rattle.path_theory.proofs.FrameKinds.{in_own_frame, stayed}
use Rattle.path_theory.proofs.theorems.own_frames_stand_for_called_ones.Goals as goal

pub returns : goal.returns
returns k s f t₀ b g t root unknown w =
    in_own_frame (model s.checker) (origins_of s.checker) (exits_of s.checker s.exits s.same s.quiet) (supergraph (model s.checker) (graphs_of s.checker s.program)) (numbered_local s.checker) (objects_of s.checker s.objects) w
    (stayed (model s.checker) (origins_of s.checker) (exits_of s.checker s.exits s.same s.quiet) (graphs_of s.checker s.program) s.apart w.run) root unknown
