-- For public contracts: formulas and outputs whose terms belong to a bank.
use Rattle.std.specs.Prelude.{◌≡◌, ℕ, List, [], ◌∷◌, ◌++◌, All, map}
use Rattle.std.proofs.Common.{sym, subst}
use Rattle.std.proofs.lemmas.List.Elements.{All-nil, All-cons, All-append, All-weaker, All-head, All-tail}
use denote.Hole.Carrier.{roll}
use Rattle.syn_term.specs.declared.sorts.SymId.{SymId}
use Rattle.syn_term.specs.declared.sorts.Var.{Var}
use Rattle.syn_term.specs.Bank.{Kept, Belongs, Extends, Belongs-extends}
use Rattle.syn_term.specs.Terms.{TermTree}
use Rattle.syn_form.specs.declared.syntax.Quantifier.{Quantifier}
use Rattle.syn_form.specs.declared.syntax.Quantifier.TheVariants as quantifier
use Rattle.syn_form.specs.declared.trees.QForm.{roll-QForm, fold-roll-QForm}
use Rattle.syn_form.specs.declared.trees.QForm.TheOpen.{QForm-F}
use Rattle.syn_form.specs.declared.trees.QForm.TheVariants as form
use Rattle.syn_form.specs.declared.trees.QForm.TheViews as view
use Rattle.syn_form.specs.Elaboration.{quantifier_tree}
use Rattle.syn_form.specs.declared.trees.Out.{roll-Out, fold-roll-Out}
use Rattle.syn_form.specs.declared.trees.Out.TheOpen.{Out-F}
use Rattle.syn_form.specs.declared.trees.Out.TheVariants as out
use Rattle.syn_form.specs.declared.trees.Out.TheViews as out_view
use Rattle.syn_form.specs.Quantified.{qform_terms, qform_terms_step}
use Rattle.syn_form.specs.Trees.{FormTree, OutTree, QFormTree, all_of, form_terms, out_terms, out_terms_step}

-- each term of the formula belongs to the bank
pub QFormBelongs : Kept → QFormTree → Type 0
QFormBelongs b f = All (Belongs b) (qform_terms f)

-- what belongs to a bank belongs to it after more calls
pub QFormBelongs-extends : (a b : Kept) (f : QFormTree) → Extends a b → QFormBelongs a f → QFormBelongs b f
unfolding QFormBelongs
QFormBelongs-extends a b f more h = All-weaker (Belongs a) (Belongs b) (λ t k. Belongs-extends a b t more k) (qform_terms f) h

by_terms : (b : Kept) (f : QFormTree) (ts : List TermTree) → qform_terms f ≡ ts → All (Belongs b) ts → QFormBelongs b f
unfolding QFormBelongs
by_terms b f ts e h = subst (λ (z : List TermTree). All (Belongs b) z) (sym e) h

terms_of : (b : Kept) (f : QFormTree) → QFormBelongs b f → All (Belongs b) (qform_terms f)
unfolding QFormBelongs
terms_of b f h = h

-- a formula belongs where its parts do
pub QFormBelongs-True : (b : Kept) → QFormBelongs b form.True
unfolding roll-QForm roll
QFormBelongs-True b = by_terms b form.True [] (fold-roll-QForm (List TermTree) qform_terms_step QForm-F.True) (All-nil (Belongs b))

pub QFormBelongs-False : (b : Kept) → QFormBelongs b form.False
unfolding roll-QForm roll
QFormBelongs-False b = by_terms b form.False [] (fold-roll-QForm (List TermTree) qform_terms_step QForm-F.False) (All-nil (Belongs b))

pub QFormBelongs-Atom : (b : Kept) (r : SymId) (args : List TermTree) → All (Belongs b) args → QFormBelongs b (form.Atom r args)
unfolding roll-QForm roll
QFormBelongs-Atom b r args h = by_terms b (form.Atom r args) args (fold-roll-QForm (List TermTree) qform_terms_step (QForm-F.Atom r args)) h

pub QFormBelongs-Equal : (b : Kept) (s t : TermTree) → Belongs b s → Belongs b t → QFormBelongs b (form.Equal s t)
unfolding roll-QForm roll
QFormBelongs-Equal b s t h k = by_terms b (form.Equal s t) (s ∷ t ∷ []) (fold-roll-QForm (List TermTree) qform_terms_step (QForm-F.Equal s t)) (All-cons (Belongs b) s (t ∷ []) h (All-cons (Belongs b) t [] k (All-nil (Belongs b))))

pub QFormBelongs-Not : (b : Kept) (a : QFormTree) → QFormBelongs b a → QFormBelongs b (view.Not a)
unfolding roll-QForm roll
QFormBelongs-Not b a h = by_terms b (view.Not a) (qform_terms a) (fold-roll-QForm (List TermTree) qform_terms_step (QForm-F.Not a)) (terms_of b a h)

all_terms : (b : Kept) (all : List QFormTree) → All (QFormBelongs b) all → All (Belongs b) (all_of (map qform_terms all))
all_terms b [] h = All-nil (Belongs b)
all_terms b (f ∷ fs) h = All-append (Belongs b) (qform_terms f) (all_of (map qform_terms fs)) (terms_of b f (All-head (QFormBelongs b) f fs h)) (all_terms b fs (All-tail (QFormBelongs b) f fs h))

pub QFormBelongs-And : (b : Kept) (all : List QFormTree) → All (QFormBelongs b) all → QFormBelongs b (view.And all)
unfolding roll-QForm roll
QFormBelongs-And b all h = by_terms b (view.And all) (all_of (map qform_terms all)) (fold-roll-QForm (List TermTree) qform_terms_step (QForm-F.And all)) (all_terms b all h)

pub QFormBelongs-Or : (b : Kept) (all : List QFormTree) → All (QFormBelongs b) all → QFormBelongs b (view.Or all)
unfolding roll-QForm roll
QFormBelongs-Or b all h = by_terms b (view.Or all) (all_of (map qform_terms all)) (fold-roll-QForm (List TermTree) qform_terms_step (QForm-F.Or all)) (all_terms b all h)

pub QFormBelongs-Implies : (b : Kept) (f g : QFormTree) → QFormBelongs b f → QFormBelongs b g → QFormBelongs b (view.Implies f g)
unfolding roll-QForm roll
QFormBelongs-Implies b f g h k = by_terms b (view.Implies f g) (qform_terms f ++ qform_terms g) (fold-roll-QForm (List TermTree) qform_terms_step (QForm-F.Implies f g)) (All-append (Belongs b) (qform_terms f) (qform_terms g) (terms_of b f h) (terms_of b g k))

pub QFormBelongs-quantifier : (b : Kept) (q : Quantifier) (x : List ℕ) (v : Var) (f : QFormTree) → QFormBelongs b f → QFormBelongs b (quantifier_tree q x v f)
unfolding roll-QForm roll
QFormBelongs-quantifier b quantifier.All x v f h = by_terms b (quantifier_tree quantifier.All x v f) (qform_terms f) (fold-roll-QForm (List TermTree) qform_terms_step (QForm-F.All (record { var = v; name = x }) f)) (terms_of b f h)
QFormBelongs-quantifier b quantifier.Exists x v f h = by_terms b (quantifier_tree quantifier.Exists x v f) (qform_terms f) (fold-roll-QForm (List TermTree) qform_terms_step (QForm-F.Exists (record { var = v; name = x }) f)) (terms_of b f h)

-- the terms of a formula that belongs
pub QFormBelongs-terms : (b : Kept) (f : QFormTree) → QFormBelongs b f → All (Belongs b) (qform_terms f)
QFormBelongs-terms b f h = terms_of b f h

-- each term of a formula without quantifiers, or of an output, belongs to the bank
pub FormBelongs : Kept → FormTree → Type 0
FormBelongs b f = All (Belongs b) (form_terms f)

pub OutBelongs : Kept → OutTree → Type 0
OutBelongs b o = All (Belongs b) (out_terms o)

pub FormBelongs-extends : (a b : Kept) (f : FormTree) → Extends a b → FormBelongs a f → FormBelongs b f
unfolding FormBelongs
FormBelongs-extends a b f more h = All-weaker (Belongs a) (Belongs b) (λ t k. Belongs-extends a b t more k) (form_terms f) h

pub OutBelongs-extends : (a b : Kept) (o : OutTree) → Extends a b → OutBelongs a o → OutBelongs b o
unfolding OutBelongs
OutBelongs-extends a b o more h = All-weaker (Belongs a) (Belongs b) (λ t k. Belongs-extends a b t more k) (out_terms o) h

pub FormBelongs-terms : (b : Kept) (f : FormTree) → FormBelongs b f → All (Belongs b) (form_terms f)
unfolding FormBelongs
FormBelongs-terms b f h = h

pub FormBelongs-from : (b : Kept) (f : FormTree) → All (Belongs b) (form_terms f) → FormBelongs b f
unfolding FormBelongs
FormBelongs-from b f h = h

pub OutBelongs-terms : (b : Kept) (o : OutTree) → OutBelongs b o → All (Belongs b) (out_terms o)
unfolding OutBelongs
OutBelongs-terms b o h = h

out_by_terms : (b : Kept) (o : OutTree) (ts : List TermTree) → out_terms o ≡ ts → All (Belongs b) ts → OutBelongs b o
unfolding OutBelongs
out_by_terms b o ts e h = subst (λ (z : List TermTree). All (Belongs b) z) (sym e) h

pub OutBelongs-Give : (b : Kept) (t : TermTree) → Belongs b t → OutBelongs b (out.Give t)
unfolding roll-Out roll
OutBelongs-Give b t h = out_by_terms b (out.Give t) (t ∷ []) (fold-roll-Out (List TermTree) out_terms_step (Out-F.Give t)) (All-cons (Belongs b) t [] h (All-nil (Belongs b)))

pub OutBelongs-If : (b : Kept) (f : FormTree) (u v : OutTree) → FormBelongs b f → OutBelongs b u → OutBelongs b v → OutBelongs b (out_view.If f u v)
unfolding roll-Out roll
OutBelongs-If b f u v h k l = out_by_terms b (out_view.If f u v) (form_terms f ++ (out_terms u ++ out_terms v)) (fold-roll-Out (List TermTree) out_terms_step (Out-F.If f u v)) (All-append (Belongs b) (form_terms f) (out_terms u ++ out_terms v) (FormBelongs-terms b f h) (All-append (Belongs b) (out_terms u) (out_terms v) (OutBelongs-terms b u k) (OutBelongs-terms b v l)))
