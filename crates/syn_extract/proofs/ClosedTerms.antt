-- Terms whose variables become default terms.
use Rattle.std.proofs.Common.{◌≡◌, ℕ, ◌+◌, ◌*◌, ◌<◌, List, [], ◌∷◌, ◌++◌, Some, get_or, length, map, take, sym, ◌∙◌, ap, arith}
use Rattle.std.proofs.lemmas.List.{map-append, take_more}
use Rattle.syn_term.specs.Bank.{Extends-refl, Extends-trans}
use Rattle.syn_term.specs.declared.sorts.SymId.{SymId}
use Rattle.syn_term.specs.declared.sorts.Var.{Var}
use Rattle.syn_term.specs.declared.term.Place.{Place}
use Rattle.syn_term.specs.declared.term.Node.TheVariants as node
use Rattle.syn_term.specs.declared.term.Node.TheViews as view
use Rattle.syn_term.specs.Symbols.{SymbolTable}
use Rattle.syn_term.specs.Terms.{IsApplication, TermTree, application, bare, nowhere, sort_of}
use Rattle.syn_term.proofs.Trees.{fold-App, fold-Var}
use Rattle.syn_form.specs.declared.trees.Out.TheViews as out_view
use Rattle.syn_form.specs.Trees.{FormTree, OutTree, form_nodes, out_nodes}
use Rattle.syn_form.proofs.Equations.{out_nodes-If}
use Rattle.syn_form.proofs.Sorting.{sort_bare, sort_of-application, sort_of-variable}
use Rattle.syn_value.specs.Defaults.{default_term_tree}
use Rattle.syn_extract.specs.Final.{closed_step, closed_term}

pub ruleset growth = (Extends-refl, Extends-trans)

-- what is made so far, with one more
pub made_more : {X Z Y : Type 0} (f : Z → Y) (g : X → Y) (ts : List X) (done new : List Z) (i : ℕ) (d x : X) (r : Z) → i < length ts → x ≡ get_or ts i d → map f done ≡ map g (take i ts) → f r ≡ g x → new ≡ done ++ r ∷ [] → map f new ≡ map g (take (i + 1) ts)
made_more {X} {Z} {Y} f g ts done new i d x r within is h e n =
    let a : map f new ≡ map f done ++ f r ∷ [] = ap (map f) n ∙ map-append f done (r ∷ []) in
    let b : map g (take (i + 1) ts) ≡ map g (take i ts) ++ g x ∷ [] = ap (map g) (take_more ts i d within ∙ ap (λ (z : X). take i ts ++ z ∷ []) (sym is)) ∙ map-append g (take i ts) (x ∷ []) in
    a ∙ (ap (λ (zs : List Y). zs ++ f r ∷ []) h ∙ (ap (λ (z : Y). map g (take i ts) ++ z ∷ []) e ∙ sym b))

module _ (table : SymbolTable) (t : TermTree) where
  -- a variable becomes the default term of its sort
  pub variable_end : (p : Place) (v : Var) (r : TermTree) → t ≡ node.Var p v → bare r ≡ default_term_tree table v.sort → bare r ≡ closed_term table t
  variable_end p v r is e = e ∙ sym (ap (closed_term table) is ∙ fold-Var (closed_step table) p v)

  pub variable_sort : (p : Place) (v : Var) (r : TermTree) → t ≡ node.Var p v → sort_of table r ≡ Some v.sort → sort_of table r ≡ sort_of table t
  variable_sort p v r is e = e ∙ sym (ap (sort_of table) is ∙ sort_of-variable table p v)

  -- a symbol stays, its arguments so
  pub application_end : (p : Place) (f : SymId) (args xs parts : List TermTree) (r : TermTree) → t ≡ view.App p f args → xs ≡ args → map bare parts ≡ map (closed_term table) xs → bare r ≡ application f (map bare parts) → bare r ≡ closed_term table t
  application_end p f args xs parts r is same h e =
      e ∙ (ap (application f) (h ∙ ap (map (closed_term table)) same) ∙ sym (ap (closed_term table) is ∙ fold-App (closed_step table) p f args))

  pub application_sort : (p : Place) (f : SymId) (args parts : List TermTree) (r : TermTree) → t ≡ view.App p f args → bare r ≡ application f (map bare parts) → sort_of table r ≡ sort_of table t
  application_sort p f args parts r is e =
      sym (sort_bare table r) ∙ (ap (sort_of table) e ∙ (sort_of-application table nowhere f (map bare parts) ∙ sym (ap (sort_of table) is ∙ sort_of-application table p f args)))

-- a symbol may be applied to arguments of the same sorts
pub applies_alike : (table : SymbolTable) (f : SymId) (args parts : List TermTree) → map (sort_of table) parts ≡ map (sort_of table) args → IsApplication table f args → IsApplication table f parts
applies_alike table f args parts e h = record { sym = h.sym; is = h.is; no_relation = h.no_relation; no_order = h.no_order; sorts = e ∙ h.sorts }

pub choice_fewer : (o : OutTree) (f g : FormTree) (u v x y : OutTree) → o ≡ out_view.If f u v → g ≡ f → x ≡ u → y ≡ v → 3 * (out_nodes x + out_nodes y) + 2 < 3 * out_nodes o
choice_fewer o f g u v x y is is_g is_x is_y =
    let n : out_nodes o ≡ 1 + (form_nodes f + (out_nodes u + out_nodes v)) = ap out_nodes is ∙ out_nodes-If f u v in
    let b : out_nodes x ≡ out_nodes u = ap out_nodes is_x in
    let c : out_nodes y ≡ out_nodes v = ap out_nodes is_y in omega arith
