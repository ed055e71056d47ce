-- Terms, formulas and outputs: a tree stands for words just where it is read.
use Rattle.std.proofs.Common.{◌≡◌, ℕ, ◌≤◌, List, Some, map, refl, sym, ◌∙◌, ap, subst, arith}
use Rattle.syn_term.specs.Terms.{TermTree}
use Rattle.syn_term.specs.Tokens.{Word}
use Rattle.syn_form.specs.declared.syntax.TermSyntax.{TermSyntax}
use Rattle.syn_form.specs.declared.syntax.FormSyntax.{FormSyntax}
use Rattle.syn_form.specs.declared.syntax.OutSyntax.{OutSyntax}
use Rattle.syn_form.specs.Elaboration.{elaborate_form}
use Rattle.syn_form.specs.Grammar.{FormText, OutText, spelling, words_of_form, words_of_out, syntax_of_form, syntax_of_out}
use Rattle.syn_form.specs.Quantified.{unquantified}
use Rattle.syn_form.specs.Scopes.{TextScope}
use Rattle.syn_form.specs.Texts.{IsFormOf, IsOutOf, IsQFormOf, IsTermOf, Limit}
use Rattle.syn_form.specs.Trees.{FormTree, QFormTree, OutTree}
use Rattle.syn_parse.specs.Parsing.{IsFormSyntaxOfWords, IsOutSyntaxOfWords, IsTermSyntaxOfWords, OneSyntax}
use Rattle.syn_expr.specs.inner.Accepting.{TakesForm, TakesOut, TakesQForm, TakesTerm}
use Rattle.syn_expr.proofs.Fitting.{term_fit}
use Rattle.syn_expr.proofs.FormCounts.{form_depth_is}
use Rattle.syn_expr.proofs.FormFitting.{FormFit, OutFit, form_fit, out_fit}
use Rattle.syn_expr.proofs.FormMaking.{both}
use Rattle.syn_expr.proofs.PlainCounts.{plain_depth_is, out_depth_is}
use Rattle.syn_expr.proofs.ProperTrees.{form_proper, out_proper, term_proper}
use Rattle.syn_expr.proofs.Stands.{Reader}
use Rattle.syn_expr.proofs.TermCounts.{step_there, term_depth_is}

pub same_tree : {T : Type 0} (t u : T) → Some t ≡ Some u → t ≡ u
same_tree t u e = cc

pub same_form : (t u : QFormTree) (m n : ℕ) → Some (both t m) ≡ Some (both u n) → t ≡ u
same_form t u m n e = let g : both t m ≡ both u n = cc in ap (λ (z : QFormTree × ℕ). z.0) g

-- the syntax tree of a low reading
form_syntax_is : (words : List Word) (w : FormText) → words ≡ map spelling (words_of_form w) → FormFit w → IsFormSyntaxOfWords words (syntax_of_form w)
form_syntax_is words w h f = record { reading = w; lexemes = (f.1, h); written = f.0; tree = refl; low = f.2 }

out_syntax_is : (words : List Word) (w : OutText) → words ≡ map spelling (words_of_out w) → OutFit w → IsOutSyntaxOfWords words (syntax_of_out w)
out_syntax_is words w h f = record { reading = w; lexemes = (f.1, h); written = f.0; tree = refl; low = f.2 }

module _ (limit : Limit) (low : limit.depth ≤ 1264) (scope : TextScope) (words : List Word) where
  pub term_put : (s : TermSyntax) (t : TermTree) → IsTermSyntaxOfWords words s → TakesTerm limit scope s t → IsTermOf limit scope words t
  term_put s t is k = record { syntax = s; written = is.lexemes.1; tree = k.tree; sorts = k.sorts; few = k.few; shallow = k.shallow }

  pub term_got : (t : TermTree) → IsTermOf limit scope words t → (s : TermSyntax) × IsTermSyntaxOfWords words s × TakesTerm limit scope s t
  term_got t k =
      let s = k.syntax in
      let d = term_depth_is scope s t k.tree in
      let l = k.shallow in
      let f = term_fit s (term_proper scope s t k.tree) (omega arith) in
      (s, record { lexemes = (f.1, k.written); written = f.0 }, record { tree = k.tree; sorts = k.sorts; few = k.few; shallow = l })

  abbrev pub term_reader : OneSyntax (IsTermSyntaxOfWords words) → Reader TermSyntax TermTree
  term_reader one = record { Is = IsTermSyntaxOfWords words; Takes = TakesTerm limit scope; Stands = IsTermOf limit scope words; one = one; put = term_put; got = term_got; same = λ s t u k l. same_tree t u (sym k.tree ∙ l.tree) }

  pub form_put : (s : FormSyntax) (t : FormTree) → IsFormSyntaxOfWords words s → TakesForm limit scope s t → IsFormOf limit scope words t
  form_put s t is k =
      let m = subst (λ (z : FormSyntax). TakesForm limit scope z t) (sym is.tree) k in
      record { reading = is.reading; written = is.lexemes.1; tree = m.tree; sorts = m.sorts; few = m.few; shallow = m.shallow }

  pub form_got : (t : FormTree) → IsFormOf limit scope words t → (s : FormSyntax) × IsFormSyntaxOfWords words s × TakesForm limit scope s t
  form_got t k =
      let w = k.reading in
      let s = syntax_of_form w in
      let r = step_there (λ (z : QFormTree × ℕ). unquantified z.0) (elaborate_form s scope 1) t k.tree in
      let d = plain_depth_is scope s t k.tree in
      let l = k.shallow in
      let f = form_fit w (form_proper s scope 1 (r.0).1 (r.0).0 r.1, omega arith) in
      (s, form_syntax_is words w k.written f, record { tree = k.tree; sorts = k.sorts; few = k.few; shallow = l })

  abbrev pub form_reader : OneSyntax (IsFormSyntaxOfWords words) → Reader FormSyntax FormTree
  form_reader one = record { Is = IsFormSyntaxOfWords words; Takes = TakesForm limit scope; Stands = IsFormOf limit scope words; one = one; put = form_put; got = form_got; same = λ s t u k l. same_tree t u (sym k.tree ∙ l.tree) }

  pub qform_put : (s : FormSyntax) (t : QFormTree) → IsFormSyntaxOfWords words s → TakesQForm limit scope s t → IsQFormOf limit scope words t
  qform_put s t is k =
      let m = subst (λ (z : FormSyntax). TakesQForm limit scope z t) (sym is.tree) k in
      record { reading = is.reading; next = m.next; written = is.lexemes.1; tree = m.tree; sorts = m.sorts; few = m.few; shallow = m.shallow }

  pub qform_got : (t : QFormTree) → IsQFormOf limit scope words t → (s : FormSyntax) × IsFormSyntaxOfWords words s × TakesQForm limit scope s t
  qform_got t k =
      let w = k.reading in
      let s = syntax_of_form w in
      let d = form_depth_is s scope 1 k.next t k.tree in
      let l = k.shallow in
      let f = form_fit w (form_proper s scope 1 k.next t k.tree, omega arith) in
      (s, form_syntax_is words w k.written f, record { next = k.next; tree = k.tree; sorts = k.sorts; few = k.few; shallow = l })

  abbrev pub qform_reader : OneSyntax (IsFormSyntaxOfWords words) → Reader FormSyntax QFormTree
  qform_reader one = record { Is = IsFormSyntaxOfWords words; Takes = TakesQForm limit scope; Stands = IsQFormOf limit scope words; one = one; put = qform_put; got = qform_got; same = λ s t u k l. same_form t u k.next l.next (sym k.tree ∙ l.tree) }

  pub out_put : (s : OutSyntax) (t : OutTree) → IsOutSyntaxOfWords words s → TakesOut limit scope s t → IsOutOf limit scope words t
  out_put s t is k =
      let m = subst (λ (z : OutSyntax). TakesOut limit scope z t) (sym is.tree) k in
      record { reading = is.reading; written = is.lexemes.1; tree = m.tree; sorts = m.sorts; few = m.few; shallow = m.shallow }

  pub out_got : (t : OutTree) → IsOutOf limit scope words t → (s : OutSyntax) × IsOutSyntaxOfWords words s × TakesOut limit scope s t
  out_got t k =
      let w = k.reading in
      let s = syntax_of_out w in
      let d = out_depth_is scope s t k.tree in
      let l = k.shallow in
      let f = out_fit w (out_proper scope s t k.tree) (omega arith) in
      (s, out_syntax_is words w k.written f, record { tree = k.tree; sorts = k.sorts; few = k.few; shallow = l })

  abbrev pub out_reader : OneSyntax (IsOutSyntaxOfWords words) → Reader OutSyntax OutTree
  out_reader one = record { Is = IsOutSyntaxOfWords words; Takes = TakesOut limit scope; Stands = IsOutOf limit scope words; one = one; put = out_put; got = out_got; same = λ s t u k l. same_tree t u (sym k.tree ∙ l.tree) }
