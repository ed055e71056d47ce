-- The loops of the reader of formulas: what is taken from the end of a list is put round what is there already.
use Rattle.std.proofs.Common.{◌≡◌, ℕ, suc, ◌+◌, ◌-◌, ◌<◌, List, [], ◌∷◌, ◌++◌, Option, None, Some, refl, sym, ◌∙◌, ap, arith}
use Rattle.std.specs.Option.{option_and_then}
use Rattle.syn_parse.specs.declared.form_frames.Tall.{Tall}
use Rattle.syn_parse.specs.declared.form_frames.Prefix.{Prefix}
use Rattle.syn_form.specs.declared.syntax.FormSyntax.{FormSyntax}
use Rattle.syn_parse.specs.declared.form_frames.Frame.{Frame}
use Rattle.syn_parse.specs.inner.FormMachine.{negated, not_of, chained, chain_imp, implies_of, under, quantified_of, sided, form_done}
use Rattle.syn_form.specs.declared.syntax.FormSyntax.TheViews as view

pub and_then-and_then : {A B C : Type 0} (g : B → Option C) (f : A → Option B) (o : Option A) → option_and_then g (option_and_then f o) ≡ option_and_then (λ x. option_and_then g (f x)) o
and_then-and_then g f None = refl
and_then-and_then g f (Some x) = refl

pub and_then-some : {A : Type 0} (o : Option A) → option_and_then (λ (x : A). Some x) o ≡ o
and_then-some None = refl
and_then-some (Some x) = refl

pub chain_imp_last : (xs : List Tall) (x u : Tall) → chain_imp (xs ++ x ∷ []) u ≡ option_and_then (chain_imp xs) (implies_of x u)
chain_imp_last [] x u = sym (and_then-some (implies_of x u))
chain_imp_last (y ∷ ys) x u = ap (option_and_then (implies_of y)) (chain_imp_last ys x u) ∙ and_then-and_then (implies_of y) (chain_imp ys) (implies_of x u)

pub under_last : (xs : List Prefix) (x : Prefix) (u : Tall) → under (xs ++ x ∷ []) u ≡ option_and_then (under xs) (quantified_of x u)
under_last [] x u = sym (and_then-some (quantified_of x u))
under_last (y ∷ ys) x u = ap (option_and_then (quantified_of y)) (under_last ys x u) ∙ and_then-and_then (quantified_of y) (under ys) (quantified_of x u)

pub negated_next : (n i : ℕ) (u : Tall) → i < n → negated (n - i) u ≡ option_and_then (negated (n - (i + 1))) (not_of u)
negated_next n i u lt = let e : n - i ≡ suc (n - (i + 1)) = omega arith in ap (λ m. negated m u) e

-- a form of which nothing else was read is its operand
pub bare_done : (f : Frame) → f.prefixes ≡ [] → f.ands.forms ≡ [] → f.ors.forms ≡ [] → f.lefts ≡ [] → f.side ≡ None → (u : Tall) → form_done f u ≡ Some u
bare_done f p a o l s u =
    ap (λ (z : List Prefix). option_and_then (under z) (option_and_then (sided f.side) (option_and_then (chain_imp f.lefts) (option_and_then (chained view.Or f.ors.forms f.ors.height) (chained view.And f.ands.forms f.ands.height u))))) p ∙
    (ap (λ (z : List FormSyntax). option_and_then (under []) (option_and_then (sided f.side) (option_and_then (chain_imp f.lefts) (option_and_then (chained view.Or f.ors.forms f.ors.height) (chained view.And z f.ands.height u))))) a ∙
    (ap (λ (z : List FormSyntax). option_and_then (under []) (option_and_then (sided f.side) (option_and_then (chain_imp f.lefts) (chained view.Or z f.ors.height u)))) o ∙
    (ap (λ (z : List Tall). option_and_then (under []) (option_and_then (sided f.side) (chain_imp z u))) l ∙
    ap (λ (z : Option Tall). option_and_then (under []) (sided z u)) s)))
