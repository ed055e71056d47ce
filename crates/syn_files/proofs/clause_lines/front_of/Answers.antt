use Rattle.std.proofs.Common.{◌≡◌, ℕ, List, None, true, map, ap, sym, subst}
use Rattle.syn_term.specs.Terms.{bare}
use Rattle.syn_parse.specs.Parsing.{IsTermSyntaxOfWords, Parses}
use Rattle.syn_expr.specs.Scopes.{listed}
use Rattle.syn_expr.specs.inner.Proper.{is_symbol_name}
use Rattle.syn_model.proofs.BareDeclaring.{table_bare}
use Rattle.syn_files.specs.inner.ClauseReading.{applied}
use Rattle.syn_files.specs.inner.ClauseWords.{clause_names}
use Rattle.syn_files.proofs.ClauseReads.{front_found, no_front}
use Rattle.syn_files.proofs.clause_lines.front_of.Goals as goal

pub returns-in-None-clause-told : goal.returns-in-None-clause-told
returns-in-None-clause-told c =
    no_front _ c.args.sorts.now c.args.words.now (subst (λ (x : List ℕ). is_symbol_name x ≡ true) c.requires.is c.requires.named)
    (subst (λ (x : List ℕ). Parses (λ ps. IsTermSyntaxOfWords c.args.words.now (applied x ps)) None) c.requires.is
    (subst (Parses (λ ps. IsTermSyntaxOfWords c.args.words.now (applied c.args.own.now ps))) c.in-None.is c.in_ok-patterns_of.ensures.answer))

pub returns-in-Some-clause-told : goal.returns-in-Some-clause-told
returns-in-Some-clause-told c =
    front_found _ c.args.sorts.now c.args.words.now (subst (λ (x : List ℕ). is_symbol_name x ≡ true) c.requires.is c.requires.named) c.as_slice.result.now
    (subst (λ (x : List ℕ). IsTermSyntaxOfWords c.args.words.now (applied x c.as_slice.result.now)) c.requires.is
    (subst (λ ps. IsTermSyntaxOfWords c.args.words.now (applied c.args.own.now ps)) (sym c.as_slice.ensures)
    (subst (Parses (λ ps. IsTermSyntaxOfWords c.args.words.now (applied c.args.own.now ps))) c.in-Some.is c.in_ok-patterns_of.ensures.answer)))
    c.patterns_of.ensures.one _ (ap (λ t. clause_names t c.args.sorts.now c.as_slice.result.now) (sym (table_bare c.args.theory.now.decls)))
    (λ f. listed f.names.items) (λ f. map bare f.args) c.front_from.result c.front_from.ensures.told
