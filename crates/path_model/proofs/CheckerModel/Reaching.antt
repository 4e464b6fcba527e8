-- The object of the callee through which an actual reaches one of the caller.
use Rattle.std.proofs.Common.{◌≡◌, ◌↔◌, ℕ, [], Bool, true, false, Option, None, Some, refl, ◌∙◌, sym, ap, cond}
use Rattle.c_objects.specs.Objects.{Object, IsObject, path, are_static}
use Rattle.c_objects.specs.Paths.{rebase}
use Rattle.c_objects.proofs.Plain.{if-object}
use Rattle.type_rules.specs.Options.{◌>?◌}
use Rattle.type_rules.specs.Vars.{CVar}
use Rattle.path_model.specs.CheckerModel.Calls.{if_static, reaching}
use Rattle.c_objects.specs.Replaced.{replaced}
use Rattle.c_objects.proofs.Replacing.{replaced-becomes, becomes-replaced}

module _ (depth : ℕ) (x : CVar) (a o : Object) (io : IsObject depth o) where
  reaching-is : reaching depth x a o ≡ (replaced depth (path x []) a o >? if_static)
  reaching-is = ap (λ q. (q >? replaced depth (path x []) a) >? if_static) (if-object depth o io)

  static : (q : Option Object) (c : Object) → (q >? if_static) ≡ Some c → (q ≡ Some c) × (are_static c.selectors ≡ true)
  static None c h = cc
  static (Some d) c h = by (are_static d.selectors) refl h
    where
      by : (b : Bool) → are_static d.selectors ≡ b → cond b (Some d) None ≡ Some c → (Some d ≡ Some c) × (are_static c.selectors ≡ true)
      by true e k = let same : d ≡ c = cc in (k, ap (λ z. are_static z.selectors) (sym same) ∙ e)
      by false e k = cc

  pub reaches : (c : Object) → IsObject depth a → (reaching depth x a o ≡ Some c) ↔ (IsObject depth c × (are_static c.selectors ≡ true) × (rebase depth c (path x []) a ≡ Some o))
  reaches c ia = (
    λ h. let s = static (replaced depth (path x []) a o) c (sym reaching-is ∙ h) in
        let b = replaced-becomes depth x [] a o c ia io s.0 in
        (b.object, s.1, b.same),
    λ b. reaching-is ∙ ap (λ q. q >? if_static) (becomes-replaced depth x [] a o c b.0 b.2) ∙ ap (λ z. cond z (Some c) None) b.1,
  )
