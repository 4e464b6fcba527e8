-- What a call hands back is of a formal, or has static storage: it is of no variable of a block.
use Rattle.std.proofs.Common.{◌≡◌, inl, inr, ℕ, zero, suc, List, [], ◌∷◌, slice_get, true, false, cond, Option, None, Some, refl, sym, ap, ◌∙◌}
use Rattle.c_objects.specs.Objects.{Object, path, is_static_var, are_static}
use Rattle.c_objects.specs.Paths.{append, rebased_address, rest}
use Rattle.c_objects.proofs.Replacing.{rest-some}
use Rattle.hole_matching.specs.Callouts.{is_local}
use Rattle.hole_matching.proofs.Heads.{and-left}
use Rattle.path_model.specs.CheckerModel.Calls.{AreObjects, BecomesThrough, IsHandedBack, out}
use Rattle.path_model.specs.CheckerModel.Happenings.{Site}
use Rattle.path_model.proofs.CheckerModel.HandedBack.{handed-back}
use Rattle.path_model.proofs.CheckerModel.Sources.{given}
use Rattle.type_rules.specs.Vars.{CVar, Extern, FileStatic, LocalStatic, Param, Local, Result, Called}
use Rattle.path_model.proofs.CheckerPrograms.Formals.{AreOther}

static-other : (v : CVar) → is_static_var v ≡ true → is_local v ≡ false
static-other (Extern n) h = refl
static-other (FileStatic f n) h = refl
static-other (LocalStatic f t n) h = refl
static-other (Param f t n) h = refl
static-other (Local f t n) h = cc
static-other Result h = refl
static-other (Called f t n) h = refl

one-other : (xs : List (Option CVar)) (n : ℕ) (x : CVar) → AreOther xs → slice_get xs n ≡ Some (Some x) → is_local x ≡ false
one-other [] n x h e = cc
one-other (None ∷ xs) zero x h e = cc
one-other (Some y ∷ xs) zero x h e = let same : y ≡ x = cc in ap is_local (sym same) ∙ h.0
one-other (y ∷ xs) (suc n) x h e = one-other xs n x h.1 e

-- what becomes an object through an actual is of the formal
through-other : (depth : ℕ) (xs : List (Option CVar)) (actuals : List (Option Object)) (n : ℕ) (c o : Object) → AreOther xs → BecomesThrough depth xs actuals n c o → is_local c.base ≡ false
through-other depth xs actuals n c o other b =
    let g = given (rest c (path b.formal [])) (λ r. cond c.address (rebased_address depth b.actual r) (append depth b.actual r)) o b.becomes in
    ap is_local (sym (rest-some c b.formal [] g.0 g.1).0) ∙ one-other xs n b.formal other b.is_formal

handed-other : (depth : ℕ) (s : Site) (c o : Object) → AreOther s.formals → IsHandedBack depth s c o → is_local c.base ≡ false
handed-other depth s c o other (inl f) = through-other depth s.formals s.actuals f.position c o other f.through
handed-other depth s c o other (inr w) = ap (λ (z : Object). is_local z.base) w.same ∙ static-other o.base (and-left (is_static_var o.base) (are_static o.selectors) w.static)

pub out-other : (depth : ℕ) (s : Site) (o c : Object) → AreOther s.formals → AreObjects depth s.actuals → out depth s o ≡ Some c → is_local c.base ≡ false
out-other depth s o c other are h = handed-other depth s c o other ((handed-back depth o s c are).0 h)
