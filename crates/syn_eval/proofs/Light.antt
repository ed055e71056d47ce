-- No body that a call evaluates has more nodes than all bodies together.
use Rattle.std.proofs.Common.{◌≡◌, ℕ, ◌≤◌, Bool, true, false, List, [], ◌∷◌, Option, None, Some, All, if◌then◌else◌, ap, subst, arith}
use Rattle.std.specs.List.{sum_by}
use Rattle.std.specs.Option.{option_map}
use Rattle.std.specs.Str.{bytes_eq}
use Rattle.std.proofs.lemmas.List.Elements.{All-append, All-cons, All-head, All-nil, All-tail}
use Rattle.std.proofs.lemmas.List.Sums.{sum_by-cons}
use Rattle.syn_term.specs.Symbols.{SymbolTable}
use Rattle.syn_term.specs.Terms.{TermTree, nodes}
use Rattle.syn_form.specs.Trees.{OutTree, form_nodes, out_nodes}
use Rattle.syn_value.specs.declared.tree.ValueTree.{ValueTree}
use Rattle.syn_model.specs.declared.decl.Decl.{Decl}
use Rattle.syn_model.specs.declared.decl.Decl.TheVariants as decl
use Rattle.syn_model.specs.Calls.{Chosen, Meaning, chosen, first_of, fitting, or_else}
use Rattle.syn_model.specs.Clausal.{Clause, function_clause, function_clauses, heading_after_decl, measure_in, measures_of, picked_under, relation_clause, relation_clauses}
use Rattle.syn_eval.specs.inner.Weights.{AreLight, AreLightForms, all_nodes, body_nodes, decl_nodes}

-- no summand is above the sum
below_sum : (ds : List Decl) (n : ℕ) → sum_by decl_nodes ds ≤ n → All (λ d. decl_nodes d ≤ n) ds
below_sum [] n le = All-nil (λ d. decl_nodes d ≤ n)
below_sum (d ∷ ds) n le =
    let sum = sum_by-cons decl_nodes d ds in
    All-cons (λ e. decl_nodes e ≤ n) d ds (omega (arith, le, sum)) (below_sum ds n (omega (arith, le, sum)))

picked_when : {B : Type 0} (P : B → Type 0) (b : Bool) (xs : List B) → All P xs → All P (if b then xs else [])
picked_when P true xs h = h
picked_when P false xs h = All-nil P

-- what is true of what is picked of each declaration is true of all
picked_all : {B : Type 0} (P : B → Type 0) (pick : Decl → List B) (name own : List ℕ) (ds : List Decl) → All (λ d. All P (pick d)) ds → All P (picked_under pick name own ds)
picked_all P pick name own [] h = All-nil P
picked_all P pick name own (d ∷ ds) h =
    All-append P (if bytes_eq own name then pick d else []) (picked_under pick name (heading_after_decl own d) ds)
    (picked_when P (bytes_eq own name) (pick d) (All-head (λ e. All P (pick e)) d ds h))
    (picked_all P pick name (heading_after_decl own d) ds (All-tail (λ e. All P (pick e)) d ds h))

one : {B : Type 0} (P : B → Type 0) (x : B) → P x → All P (x ∷ [])
one P x h = All-cons P x [] h (All-nil P)

function_light : (n : ℕ) (d : Decl) → decl_nodes d ≤ n → All (λ c. out_nodes c.body ≤ n) (function_clause d)
function_light n (decl.FunClause args body) le = one (λ c. out_nodes c.body ≤ n) (record { args = args; body = body }) le
function_light n _ le = All-nil (λ c. out_nodes c.body ≤ n)

relation_light : (n : ℕ) (d : Decl) → decl_nodes d ≤ n → All (λ c. form_nodes c.body ≤ n) (relation_clause d)
relation_light n (decl.RelClause args body) le = one (λ c. form_nodes c.body ≤ n) (record { args = args; body = body }) le
relation_light n _ le = All-nil (λ c. form_nodes c.body ≤ n)

weaker : {X : Type 0} (P Q : X → Type 0) → ((x : X) → P x → Q x) → (xs : List X) → All P xs → All Q xs
weaker P Q f [] h = All-nil Q
weaker P Q f (x ∷ xs) h = All-cons Q x xs (f x (All-head P x xs h)) (weaker P Q f xs (All-tail P x xs h))

each_below : (m : Meaning) → All (λ d. decl_nodes d ≤ all_nodes m) m.decls
each_below m = below_sum m.decls (all_nodes m) (omega arith)

pub functions_light : (m : Meaning) (name : List ℕ) → AreLight m (function_clauses m.decls name)
functions_light m name = picked_all (λ c. out_nodes c.body ≤ all_nodes m) function_clause name [] m.decls (weaker (λ d. decl_nodes d ≤ all_nodes m) (λ d. All (λ c. out_nodes c.body ≤ all_nodes m) (function_clause d)) (function_light (all_nodes m)) m.decls (each_below m))

pub relations_light : (m : Meaning) (name : List ℕ) → AreLightForms m (relation_clauses m.decls name)
relations_light m name = picked_all (λ c. form_nodes c.body ≤ all_nodes m) relation_clause name [] m.decls (weaker (λ d. decl_nodes d ≤ all_nodes m) (λ d. All (λ c. form_nodes c.body ≤ all_nodes m) (relation_clause d)) (relation_light (all_nodes m)) m.decls (each_below m))

measure_when : (n : ℕ) (b : Bool) (t : TermTree) → nodes t ≤ n → All (λ t. nodes t ≤ n) (if b then t ∷ [] else [])
measure_when n b t le = picked_when (λ t. nodes t ≤ n) b (t ∷ []) (one (λ t. nodes t ≤ n) t le)

measure_light : (n : ℕ) (name : List ℕ) (d : Decl) → decl_nodes d ≤ n → All (λ t. nodes t ≤ n) (measure_in name d)
measure_light n name (decl.Order other args measure) le = measure_when n (bytes_eq other name) measure le
measure_light n name _ le = All-nil (λ t. nodes t ≤ n)

measures_light : (n : ℕ) (name : List ℕ) (ds : List Decl) → All (λ d. decl_nodes d ≤ n) ds → All (λ t. nodes t ≤ n) (measures_of ds name)
measures_light n name [] h = All-nil (λ t. nodes t ≤ n)
measures_light n name (d ∷ ds) h = All-append (λ t. nodes t ≤ n) (measure_in name d) (measures_of ds name) (measure_light n name d (All-head (λ d. decl_nodes d ≤ n) d ds h)) (measures_light n name ds (All-tail (λ d. decl_nodes d ≤ n) d ds h))

first_light : (n : ℕ) (ts : List TermTree) (t : TermTree) → first_of ts ≡ Some t → All (λ t. nodes t ≤ n) ts → nodes t ≤ n
first_light n [] t e h = absurd (cc)
first_light n (u ∷ ts) t e h = let is : u ≡ t = cc in subst (λ z. nodes z ≤ n) is (All-head (λ t. nodes t ≤ n) u ts h)

pub measure_is_light : (m : Meaning) (name : List ℕ) (t : TermTree) → first_of (measures_of m.decls name) ≡ Some t → nodes t ≤ all_nodes m
measure_is_light m name t e = first_light (all_nodes m) (measures_of m.decls name) t e (measures_light (all_nodes m) name m.decls (each_below m))

pub body_is_light : (m : Meaning) (o : OutTree) → m.body ≡ Some o → out_nodes o ≤ all_nodes m
body_is_light m o e = let is : body_nodes m.body ≡ out_nodes o = ap body_nodes e in omega (arith, is)

-- so it is of the clause that is chosen
chosen_first : {B : Type 0} (g : B → ℕ) (n : ℕ) (table : SymbolTable) (c : Clause B) (cs : List (Clause B)) (vs : List ValueTree) (d : Chosen B) (o : Option (List ValueTree)) → (or_else (option_map (λ ws. record { body = c.body; values = ws }) o) (chosen table cs vs) ≡ Some d) → g c.body ≤ n → (chosen table cs vs ≡ Some d → g d.body ≤ n) → g d.body ≤ n
chosen_first g n table c cs vs d None e le rest = rest e
chosen_first g n table c cs vs d (Some ws) e le rest =
    let is : record { body = c.body; values = ws } ≡ d = cc in subst (λ z. g z.body ≤ n) is le

pub chosen_light : {B : Type 0} (g : B → ℕ) (n : ℕ) (table : SymbolTable) (cs : List (Clause B)) (vs : List ValueTree) (d : Chosen B) → chosen table cs vs ≡ Some d → All (λ c. g c.body ≤ n) cs → g d.body ≤ n
chosen_light g n table [] vs d e h = absurd (cc)
chosen_light g n table (c ∷ cs) vs d e h = chosen_first g n table c cs vs d (fitting table c.args vs) e (All-head (λ c. g c.body ≤ n) c cs h) (λ k. chosen_light g n table cs vs d k (All-tail (λ c. g c.body ≤ n) c cs h))
