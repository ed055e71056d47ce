use Rattle.std.proofs.Common.{◌∙◌, ap}
use Rattle.syn_unify.specs.inner.Changes.{seen}
use Rattle.syn_unify.proofs.FormsApplied.{out_fits_from}
use Rattle.syn_unify.proofs.applying_forms.out_fits.Goals as goal

pub returns : goal.returns
returns c = out_fits_from _ _ (ap seen c.as_slice.ensures ∙ c.s.view_is) _ _ _ c.room_beside_out.ensures c.is_some.ensures
