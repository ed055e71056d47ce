-- What the entry of a symbol tells of its calls.
use Rattle.std.proofs.Common.{◌≡◌, ℕ, zero, suc, ◌+◌, ◌≤◌, List, [], ◌∷◌, ◌++◌, Option, None, Some, Bor, length, map, slice_get, take, refl, sym, ap, ap₂, ◌∙◌, arith}
use Rattle.std.proofs.lemmas.List.{map-append}
use Rattle.std.specs.Option.{option_and_then, option_copied, option_map}
use Rattle.syn_term.specs.declared.sorts.Kind.{Kind}
use Rattle.syn_term.specs.declared.sorts.Kind.TheVariants as kind
use Rattle.syn_term.specs.declared.sorts.Sym.{Sym}
use Rattle.syn_term.specs.declared.sorts.SymId.{SymId}
use Rattle.syn_term.specs.Symbols.{symbol_at}
use Rattle.syn_term.specs.Terms.{TermTree}
use Rattle.syn_value.specs.declared.tree.ValueTree.{ValueTree}
use Rattle.syn_model.specs.declared.decl.Decl.{Decl}
use Rattle.syn_model.specs.Calls.{Meaning, by_measure, first_of, reading_at, truth_by, value_by}
use Rattle.syn_model.specs.Clausal.{measures_of}
use Rattle.syn_model.specs.Evaluation.{Reading, after}
use Rattle.syn_eval.specs.declared.entries.Entry.{Entry}
use Rattle.syn_eval.specs.inner.Rules.{Known, entry_seen, known_by, known_of}
use Rattle.syn_eval.specs.inner.Scopes.{below_at, function_at, order_at, program_at, relation_at}

-- an item of a list that is made item by item
mapped_at : {X Y : Type 0} (f : X → Y) (xs : List X) (i : ℕ) → option_map f (slice_get xs i) ≡ slice_get (map f xs) i
mapped_at f [] i = refl
mapped_at f (x ∷ xs) zero = refl
mapped_at f (x ∷ xs) (suc i) = mapped_at f xs i

lent : {X Y : Type 0} (f : X → Y) (o : Option (Bor X)) → option_map (λ b. f b.now) o ≡ option_map f (option_copied o)
lent f None = refl
lent f (Some b) = refl

-- the entry that is found is that of the symbol
pub found_entry : (o : Option (Bor Entry)) (es : List Entry) (i : ℕ) (ds : List Decl) (syms : List Sym) → option_copied o ≡ slice_get es i → map entry_seen es ≡ map (known_of ds) syms → option_map (λ b. entry_seen b.now) o ≡ option_map (known_of ds) (slice_get syms i)
found_entry o es i ds syms e h = lent entry_seen o ∙ (ap (option_map entry_seen) e ∙ (mapped_at entry_seen es i ∙ (ap (λ z. slice_get z i) h ∙ sym (mapped_at (known_of ds) syms i))))

-- the kind is known
kind_is : (ds : List Decl) (name : List ℕ) (kd : Kind) → (known_by ds name kd).kind ≡ kd
kind_is ds name kind.Zero = refl
kind_is ds name kind.Succ = refl
kind_is ds name kind.Nil = refl
kind_is ds name kind.Cons = refl
kind_is ds name kind.Tuple = refl
kind_is ds name kind.Fun = refl
kind_is ds name kind.Rel = refl
kind_is ds name kind.Order = refl
kind_is ds name kind.Program = refl
kind_is ds name kind.Input = refl
kind_is ds name kind.Skolem = refl

-- what is known of an order
abbrev ordered : Option TermTree → Known
ordered measure = record { kind = kind.Order; functions = []; relations = []; measure = measure }

pub order_known : (k : Known) (ds : List Decl) (s : Sym) (name : List ℕ) (measure : Option TermTree) → k ≡ ordered measure → measure ≡ first_of (measures_of ds name) → name ≡ s.name → s.kind ≡ kind.Order → k ≡ known_of ds s
order_known k ds s name measure h is n o = h ∙ (ap ordered is ∙ λ i. known_by ds (n i) (sym o i))

-- a symbol with what is known of it
pub record IsKnown (m : Meaning) (f : SymId) (k : Known) : Type 0 where
  pub symbol : Sym
  pub there : symbol_at m.table f ≡ Some symbol
  pub known : k ≡ known_of m.decls symbol

known_from : (m : Meaning) (f : SymId) (k : Known) (o : Option Sym) → symbol_at m.table f ≡ o → Some k ≡ option_map (known_of m.decls) o → IsKnown m f k
known_from m f k None is e = absurd (cc)
known_from m f k (Some s) is e = record { symbol = s; there = is; known = cc }

pub is_known : (m : Meaning) (f : SymId) (k : Known) → Some k ≡ option_map (known_of m.decls) (symbol_at m.table f) → IsKnown m f k
is_known m f k e = known_from m f k (symbol_at m.table f) refl e

unknown_from : (m : Meaning) (o : Option Sym) → None ≡ option_map (known_of m.decls) o → o ≡ None
unknown_from m None e = refl
unknown_from m (Some s) e = absurd (cc)

module _ (m : Meaning) (inputs : List ValueTree) (f : SymId) (vs : List ValueTree) where
  -- one level in one equation
  value_over : (n : ℕ) → (reading_at m n inputs).value f vs ≡ option_and_then (λ s. value_by m (below_at m n) inputs f s.name vs s.kind) (symbol_at m.table f)
  value_over zero = refl
  value_over (suc n) = refl

  truth_over : (n : ℕ) → (reading_at m n inputs).truth f vs ≡ option_and_then (λ s. truth_by m (below_at m n) s.name vs s.kind) (symbol_at m.table f)
  truth_over zero = refl
  truth_over (suc n) = refl

  -- a symbol that isn't there gives nothing
  pub no_value : None ≡ option_map (known_of m.decls) (symbol_at m.table f) → (n : ℕ) → (reading_at m n inputs).value f vs ≡ None
  no_value e n = value_over n ∙ ap (option_and_then (λ s. value_by m (below_at m n) inputs f s.name vs s.kind)) (unknown_from m (symbol_at m.table f) e)

  pub no_truth : None ≡ option_map (known_of m.decls) (symbol_at m.table f) → (n : ℕ) → (reading_at m n inputs).truth f vs ≡ None
  no_truth e n = truth_over n ∙ ap (option_and_then (λ s. truth_by m (below_at m n) s.name vs s.kind)) (unknown_from m (symbol_at m.table f) e)

  module _ (k : Known) (h : IsKnown m f k) where
    of_kind : (kd : Kind) → k.kind ≡ kd → h.symbol.kind ≡ kd
    of_kind kd e = sym (ap (λ (z : Known). z.kind) h.known ∙ kind_is m.decls h.symbol.name h.symbol.kind) ∙ e

    known_at : (kd : Kind) → k.kind ≡ kd → k ≡ known_by m.decls h.symbol.name kd
    known_at kd e = h.known ∙ ap (known_by m.decls h.symbol.name) (of_kind kd e)

    pub value_of_kind : (kd : Kind) → k.kind ≡ kd → (n : ℕ) → (reading_at m n inputs).value f vs ≡ value_by m (below_at m n) inputs f h.symbol.name vs kd
    value_of_kind kd e n =
        let is : h.symbol.kind ≡ kd = of_kind kd e in
        value_over n ∙ (ap (option_and_then (λ s. value_by m (below_at m n) inputs f s.name vs s.kind)) h.there ∙ ap (value_by m (below_at m n) inputs f h.symbol.name vs) is)

    pub truth_of_kind : (kd : Kind) → k.kind ≡ kd → (n : ℕ) → (reading_at m n inputs).truth f vs ≡ truth_by m (below_at m n) h.symbol.name vs kd
    truth_of_kind kd e n =
        let is : h.symbol.kind ≡ kd = of_kind kd e in
        truth_over n ∙ (ap (option_and_then (λ s. truth_by m (below_at m n) s.name vs s.kind)) h.there ∙ ap (truth_by m (below_at m n) h.symbol.name vs) is)

    pub function_value : k.kind ≡ kind.Fun → (n : ℕ) → (reading_at m n inputs).value f vs ≡ function_at m k.functions vs n
    function_value e n = value_of_kind kind.Fun e n ∙ ap (λ (z : Known). function_at m z.functions vs n) (sym (known_at kind.Fun e))

    pub program_value : k.kind ≡ kind.Program → (n : ℕ) → (reading_at m n inputs).value f vs ≡ program_at m vs n
    program_value e n = value_of_kind kind.Program e n

    pub relation_truth : k.kind ≡ kind.Rel → (n : ℕ) → (reading_at m n inputs).truth f vs ≡ relation_at m k.relations vs n
    relation_truth e n = truth_of_kind kind.Rel e n ∙ ap (λ (z : Known). relation_at m z.relations vs n) (sym (known_at kind.Rel e))

    -- an order compares its measure on the two halves of the values
    pub order_truth : k.kind ≡ kind.Order → (t : TermTree) → k.measure ≡ Some t → (n : ℕ) → (reading_at m n inputs).truth f vs ≡ order_at m t vs n
    order_truth e t is n = truth_of_kind kind.Order e n ∙ compared (below_at m n) where
      compared : (d : Option (List ValueTree → Reading)) → truth_by m d h.symbol.name vs kind.Order ≡ option_and_then (λ below. after 1 (by_measure (below []) vs t)) d
      compared None = refl
      compared (Some below) = ap (option_and_then (λ measure. after 1 (by_measure (below []) vs measure))) (sym (ap (λ (z : Known). z.measure) (known_at kind.Order e)) ∙ is)

    pub no_measure : k.kind ≡ kind.Order → k.measure ≡ None → (n : ℕ) → (reading_at m n inputs).truth f vs ≡ None
    no_measure e is n = truth_of_kind kind.Order e n ∙ nothing (below_at m n) where
      nothing : (d : Option (List ValueTree → Reading)) → truth_by m d h.symbol.name vs kind.Order ≡ None
      nothing None = refl
      nothing (Some below) = ap (option_and_then (λ measure. after 1 (by_measure (below []) vs measure))) (sym (ap (λ (z : Known). z.measure) (known_at kind.Order e)) ∙ is)

    pub input_value_is : k.kind ≡ kind.Input → (n : ℕ) → (reading_at m n inputs).value f vs ≡ value_by m None inputs f [] vs kind.Input
    input_value_is e n = value_of_kind kind.Input e n ∙ same vs where
      same : (ws : List ValueTree) → value_by m (below_at m n) inputs f h.symbol.name ws kind.Input ≡ value_by m None inputs f [] ws kind.Input
      same [] = refl
      same (w ∷ ws) = refl

-- the symbols up to one that is there, and to the first that isn't
with_next : {X : Type 0} (xs : List X) (i : ℕ) (x : X) → slice_get xs i ≡ Some x → (i + 1 ≤ length xs) × (take (i + 1) xs ≡ take i xs ++ x ∷ [])
with_next [] i x e = absurd (cc)
with_next (y ∷ xs) zero x e = let is : y ≡ x = cc in (omega arith, ap (λ z. z ∷ []) is)
with_next (y ∷ xs) (suc i) x e =
    let h = with_next xs i x e in
    let next : suc i + 1 ≡ suc (i + 1) = omega arith in
    (omega (arith, h.0), ap (λ z. take z (y ∷ xs)) next ∙ ap (λ z. y ∷ z) h.1)

pub all_taken : {X : Type 0} (xs : List X) (i : ℕ) → slice_get xs i ≡ None → take i xs ≡ xs
all_taken [] zero e = refl
all_taken [] (suc i) e = refl
all_taken (x ∷ xs) zero e = absurd (cc)
all_taken (x ∷ xs) (suc i) e = ap (λ z. x ∷ z) (all_taken xs i e)

pub entries_next : (es fs : List Entry) (e : Entry) (ds : List Decl) (syms : List Sym) (i : ℕ) (sy : Sym) → fs ≡ es ++ e ∷ [] → slice_get syms i ≡ Some sy → entry_seen e ≡ known_of ds sy → map entry_seen es ≡ map (known_of ds) (take i syms) → (i + 1 ≤ length syms) × (map entry_seen fs ≡ map (known_of ds) (take (i + 1) syms))
entries_next es fs e ds syms i sy f g h k =
    let n = with_next syms i sy g in
    (n.0, ap (map entry_seen) f ∙ (map-append entry_seen es (e ∷ []) ∙ (ap₂ (λ a b. a ++ b ∷ []) k h ∙ (sym (map-append (known_of ds) (take i syms) (sy ∷ [])) ∙ ap (map (known_of ds)) (sym n.1)))))

pub entries_all : (es : List Entry) (ds : List Decl) (syms : List Sym) (i : ℕ) → slice_get syms i ≡ None → map entry_seen es ≡ map (known_of ds) (take i syms) → map entry_seen es ≡ map (known_of ds) syms
entries_all es ds syms i e h = h ∙ ap (map (known_of ds)) (all_taken syms i e)

pub none_when : {X : Type 0} (o : Option X) → ((x : X) → o ≡ Some x → ⊥) → o ≡ None
none_when None h = refl
none_when (Some x) h = absurd (h x refl)
