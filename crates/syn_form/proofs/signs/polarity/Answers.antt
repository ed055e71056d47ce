use Rattle.std.proofs.Common.{◌≡◌, IsSome, sym, ◌∙◌, ap, subst}
use Rattle.syn_form.specs.Positions.{sign_at}
use Rattle.syn_form.proofs.SignLaws.{signed, has_sign}
use Rattle.syn_form.proofs.signs.polarity.Goals as goal

pub returns-clause-some : goal.returns-clause-some
returns-clause-some c =
    let value : c.sign_along.result ≡ sign_at c.args.p.now c.args.f.now = c.sign_along.ensures ∙ ap (λ ks. sign_at ks c.args.f.now) c.as_slice.ensures in
    ((λ h. signed _ _ (subst IsSome value h)), (λ h. subst IsSome (sym value) (has_sign _ _ h)))
