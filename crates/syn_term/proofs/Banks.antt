-- Which terms that a bank makes are its own.
use Rattle.std.proofs.Common.{◌≡◌, ℕ, zero, suc, ◌-◌, ◌^◌, ◌≤◌, List, All, get_or, refl, arith, rules, sym, ◌∙◌, ap, subst}
use Rattle.std.proofs.lemmas.List.Elements.{All-from_get_or, All-nil, All-set}
use Rattle.std.proofs.lemmas.Option.{slice_get-get_or}
use Rattle.syn_term.specs.declared.sorts.SymId.{SymId}
use Rattle.syn_term.specs.declared.sorts.Var.{Var}
use Rattle.syn_term.specs.declared.term.Place.{Place}
use Rattle.syn_term.specs.declared.term.Node.{Node}
use Rattle.syn_term.specs.declared.term.Node.TheVariants as node
use Rattle.syn_term.specs.declared.term.Node.TheViews as view
use Rattle.syn_term.specs.declared.term.Node.TheViews.{the_lemmas}
use Rattle.syn_term.specs.Bank.{Kept, Belongs, Belongs-child, Belongs-made, Extends, Extends-of, Extends-refl, one_more, place_of}
use Rattle.syn_term.specs.Terms.{TermTree, args_of}
use Rattle.syn_term.specs.Positions.{with_nth}
use Rattle.syn_term.proofs.Positions.{args_of-App, args_of-Var}

pub Extends-one_more : (b : Kept) → b.made ≤ 2 ^ 64 - 1 → Extends b (one_more b)
Extends-one_more b fits = Extends-of b (one_more b) (omega arith) refl

place_of-Var : (p : Place) (v : Var) → place_of (node.Var p v) ≡ p
place_of-Var p v = search (rules, the_lemmas)

place_of-App : (p : Place) (f : SymId) (xs : List Node) → place_of (view.App p f xs) ≡ p
place_of-App p f xs = search (rules, the_lemmas)

-- a variable at the next place
pub variable_belongs : (a b : Kept) (p : Place) (v : Var) (t : TermTree) → p.number ≡ a.made → b ≡ one_more a → t ≡ node.Var p v → Belongs b t
variable_belongs a b p v t at more is =
    subst (Belongs b) (sym is)
    (subst (λ (z : Kept). Belongs z (node.Var p v)) (sym more)
    (Belongs-made a (node.Var p v) (ap (λ (q : Place). q.number) (place_of-Var p v) ∙ at) (subst (All (Belongs a)) (sym (args_of-Var p v)) (All-nil (Belongs a)))))

-- a symbol at the next place, over arguments that belong
pub application_belongs : (a b : Kept) (p : Place) (f : SymId) (xs : List Node) (t : TermTree) → p.number ≡ a.made → b ≡ one_more a → t ≡ view.App p f xs → All (Belongs a) xs → Belongs b t
application_belongs a b p f xs t at more is args =
    subst (Belongs b) (sym is)
    (subst (λ (z : Kept). Belongs z (view.App p f xs)) (sym more)
    (Belongs-made a (view.App p f xs) (ap (λ (q : Place). q.number) (place_of-App p f xs) ∙ at) (subst (All (Belongs a)) (sym (args_of-App p f xs)) args)))

-- the arguments of a term that belongs
args_belong : (b : Kept) (t : TermTree) → Belongs b t → All (Belongs b) (args_of t)
args_belong b t h = All-from_get_or (Belongs b) (args_of t) t (λ i within. Belongs-child b t (get_or (args_of t) i t) (suc i) (slice_get-get_or (args_of t) i t within) h)

with_nth_belong : (b : Kept) (xs : List Node) (k : ℕ) (c : Node) → All (Belongs b) xs → Belongs b c → All (Belongs b) (with_nth xs k c)
with_nth_belong b xs zero c h belongs = h
with_nth_belong b xs (suc k) c h belongs = All-set (Belongs b) xs k c belongs h

-- and with another one that belongs
pub others_belong : (b : Kept) (t u : TermTree) (p : Place) (f : SymId) (xs : List Node) (k : ℕ) (c : TermTree) → t ≡ u → u ≡ view.App p f xs → Belongs b t → Belongs b c → All (Belongs b) (with_nth xs k c)
others_belong b t u p f xs k c same is h belongs =
    with_nth_belong b xs k c (subst (All (Belongs b)) (ap args_of (same ∙ is) ∙ args_of-App p f xs) (args_belong b t h)) belongs

pub ruleset banks = (Extends-refl)
