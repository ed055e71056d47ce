-- The four words are the texts that `check_form` judged.
use Rattle.std.proofs.Common.{MatchOption, List, ℕ, subst, string_bytes}
use Rattle.syn_app.specs.Words.{IsCheck}
use Rattle.syn_app.specs.inner.Requests.{IsNoCheck}
use Rattle.syn_app.proofs.FourWords.{map-four}
use Rattle.syn_app.proofs.command.check_names.Goals as goal

pub returns-in-len4 : goal.returns-in-len4
returns-in-len4 c =
    let words = map-four string_bytes c.args.words.now _ _ _ _ _ _ _ _ c.in-len4.len_at_least c.in-len4.len_below c.word-item.is c.theory-item.is c.spec-item.is c.deriv-item.is c.as_str.ensures.value c.as_str-in-len4.ensures.value c.as_str-in-len4-2.ensures.value c.as_str-in-len4-3.ensures.value in
    subst (λ (ws : List (List ℕ)). MatchOption c.check_form.result (IsNoCheck ws) (λ n. IsCheck ws n.theory.now n.spec.now n.deriv.now)) words c.check_form.ensures
