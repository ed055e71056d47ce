-- The numbers that variables get: each is a variable, of its own sort, and where the variable stands among those that are numbered.
use Rattle.std.proofs.Common.{◌≡◌, ◌⊎◌, inl, inr, ℕ, ◌+◌, ◌<◌, ◌≤◌, Bool, true, false, cond, List, [], ◌∷◌, Contains, length, refl, sym, ◌∙◌, ap, arith, rules}
use Rattle.syn_term.specs.declared.sorts.Var.{Var}
use Rattle.syn_term.specs.declared.term.Place.{Place}
use Rattle.syn_term.specs.declared.term.Node.{out-Node}
use Rattle.syn_term.specs.declared.term.Node.TheOpen.{Node-F}
use Rattle.syn_term.specs.declared.term.Node.TheVariants as node
use Rattle.syn_term.specs.declared.term.Node.TheViews.{the_lemmas}
use Rattle.syn_term.specs.Terms.{bare, bare_step, nowhere, variable_tree}
use Rattle.syn_term.proofs.Trees.{fold-Var}
use Rattle.syn_form.specs.Substitutions.{image, same_var}
use Rattle.syn_form.proofs.Lists.{Contains-cons_cases, none_in_nil}
use Rattle.syn_row.specs.Rows.{numbered_from}
use Rattle.syn_row.proofs.SameVars.{same_var_to, same_var_from, the_var}

-- the variable that one becomes where these are numbered from n on
abbrev pub numbered : ℕ → List Var → Var → Var
numbered n [] v = v
numbered n (u ∷ us) v = cond (same_var u v) (the_var n u.sort) (numbered (n + 1) us v)

pub image_numbered : (n : ℕ) (us : List Var) (v : Var) → image (numbered_from n us) v ≡ variable_tree (numbered n us v)
image_numbered n [] v = refl
image_numbered n (u ∷ us) v = go (same_var u v) (image_numbered (n + 1) us v)
  where
    go : (b : Bool) → image (numbered_from (n + 1) us) v ≡ variable_tree (numbered (n + 1) us v) → cond b (variable_tree (the_var n u.sort)) (image (numbered_from (n + 1) us) v) ≡ variable_tree (cond b (the_var n u.sort) (numbered (n + 1) us v))
    go true e = refl
    go false e = e

-- its sort stays
pub sort_numbered : (n : ℕ) (us : List Var) (v : Var) → (numbered n us v).sort ≡ v.sort
sort_numbered n [] v = refl
sort_numbered n (u ∷ us) v = go (same_var u v) refl (sort_numbered (n + 1) us v)
  where
    go : (b : Bool) → same_var u v ≡ b → (numbered (n + 1) us v).sort ≡ v.sort → (cond b (the_var n u.sort) (numbered (n + 1) us v)).sort ≡ v.sort
    go true e h = ap (λ (w : Var). w.sort) (same_var_to u v e)
    go false e h = h

-- a variable of the list gets n or a later number
pub number_from : (n : ℕ) (us : List Var) (v : Var) → Contains us v → n ≤ (numbered n us v).number
number_from n [] v c = absurd (none_in_nil v c)
number_from n (u ∷ us) v c = go (same_var u v) refl (Contains-cons_cases u us v c) (number_from (n + 1) us v)
  where
    go : (b : Bool) → same_var u v ≡ b → (u ≡ v) ⊎ Contains us v → (Contains us v → n + 1 ≤ (numbered (n + 1) us v).number) → n ≤ (cond b (the_var n u.sort) (numbered (n + 1) us v)).number
    go true e d h = omega arith
    go false e (inl k) h = absurd (let m = same_var_from u v k in let f : true ≡ false = sym m ∙ e in cc)
    go false e (inr k) h = let m = h k in omega arith

-- and one below n and the number of variables
pub number_below : (n : ℕ) (us : List Var) (v : Var) → Contains us v → (numbered n us v).number < n + length us
number_below n [] v c = absurd (none_in_nil v c)
number_below n (u ∷ us) v c = go (same_var u v) refl (Contains-cons_cases u us v c) (number_below (n + 1) us v)
  where
    go : (b : Bool) → same_var u v ≡ b → (u ≡ v) ⊎ Contains us v → (Contains us v → (numbered (n + 1) us v).number < n + 1 + length us) → (cond b (the_var n u.sort) (numbered (n + 1) us v)).number < n + length (u ∷ us)
    go true e d h = omega arith
    go false e (inl k) h = absurd (let m = same_var_from u v k in let f : true ≡ false = sym m ∙ e in cc)
    go false e (inr k) h = let m = h k in omega arith

-- two variables of the list that get one number are one
pub one_number : (n : ℕ) (us : List Var) (v w : Var) → Contains us v → Contains us w → (numbered n us v).number ≡ (numbered n us w).number → v ≡ w
one_number n [] v w c d e = absurd (none_in_nil v c)
one_number n (u ∷ us) v w c d e = go (same_var u v) (same_var u w) refl refl (Contains-cons_cases u us v c) (Contains-cons_cases u us w d) e (one_number (n + 1) us v w) (number_from (n + 1) us v) (number_from (n + 1) us w)
  where
    go : (a b : Bool) → same_var u v ≡ a → same_var u w ≡ b → (u ≡ v) ⊎ Contains us v → (u ≡ w) ⊎ Contains us w → (cond a (the_var n u.sort) (numbered (n + 1) us v)).number ≡ (cond b (the_var n u.sort) (numbered (n + 1) us w)).number
        → (Contains us v → Contains us w → (numbered (n + 1) us v).number ≡ (numbered (n + 1) us w).number → v ≡ w)
        → (Contains us v → n + 1 ≤ (numbered (n + 1) us v).number) → (Contains us w → n + 1 ≤ (numbered (n + 1) us w).number) → v ≡ w
    go true true p q i j k h x y = sym (same_var_to u v p) ∙ same_var_to u w q
    go true false p q i (inl f) k h x y = sym (same_var_to u v p) ∙ f
    go true false p q i (inr f) k h x y = absurd (let m = y f in omega arith)
    go false true p q (inl f) j k h x y = sym f ∙ same_var_to u w q
    go false true p q (inr f) j k h x y = absurd (let m = x f in omega arith)
    go false false p q (inl f) j k h x y = absurd (let m = same_var_from u v f in let z : true ≡ false = sym m ∙ p in cc)
    go false false p q (inr f) (inl g) k h x y = absurd (let m = same_var_from u w g in let z : true ≡ false = sym m ∙ q in cc)
    go false false p q (inr f) (inr g) k h x y = h f g k

-- a variable as a tree tells which variable it is
out-Var : (p : Place) (v : Var) → out-Node (node.Var p v) ≡ Node-F.Var p v
out-Var p v = search (rules, the_lemmas)

pub variable-injective : (v w : Var) → variable_tree v ≡ variable_tree w → v ≡ w
variable-injective v w e = let h : Node-F.Var nowhere v ≡ Node-F.Var nowhere w = sym (out-Var nowhere v) ∙ (ap out-Node e ∙ out-Var nowhere w) in cc

pub bare-variable : (v : Var) → bare (variable_tree v) ≡ variable_tree v
bare-variable v = fold-Var bare_step nowhere v
