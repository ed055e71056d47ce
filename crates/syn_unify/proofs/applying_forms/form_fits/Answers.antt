use Rattle.std.proofs.Common.{◌∙◌, ap}
use Rattle.syn_unify.specs.inner.Changes.{seen}
use Rattle.syn_unify.proofs.FormsApplied.{form_fits_from}
use Rattle.syn_unify.proofs.applying_forms.form_fits.Goals as goal

pub returns : goal.returns
returns c = form_fits_from _ _ (ap seen c.as_slice.ensures ∙ c.s.view_is) _ _ _ c.room_beside_form.ensures c.is_some.ensures
