-- Clauses: what the parts of a clause line say, and that no other clause is written by it.
use Rattle.std.proofs.Common.{◌≡◌, ◌↔◌, ℕ, ◌≤◌, true, List, [], ◌∷◌, ◌++◌, All, Err, IfOk, MatchOption, Ok, Option, None, Result, Some, String, codes, drop, get_or, length, map, string_bytes, refl, sym, ◌∙◌, ap, subst, arith}
use Rattle.std.specs.List.{flat_map}
use Rattle.std.specs.Option.{option_map}
use Rattle.std.proofs.lemmas.List.Elements.{All-cons, All-head, All-map}
use Rattle.std.proofs.lemmas.Option.{same_Some}
use Rattle.std.proofs.lemmas.Simd.{map-map}
use Rattle.syn_term.specs.declared.sorts.Sort.{Sort}
use Rattle.syn_term.specs.declared.sorts.Var.{Var}
use Rattle.syn_term.specs.Terms.{TermTree, bare}
use Rattle.syn_term.specs.Tokens.{Word}
use Rattle.syn_form.specs.declared.syntax.HeadName.TheVariants as head
use Rattle.syn_form.specs.declared.syntax.TermSyntax.{TermSyntax}
use Rattle.syn_form.specs.Elaboration.{elaborate_term}
use Rattle.syn_form.specs.Grammar.{name_word, sign_word}
use Rattle.syn_form.specs.Lists.{all_there}
use Rattle.syn_form.specs.Scopes.{Named, TextScope}
use Rattle.syn_form.specs.Trees.{term_vars}
use Rattle.syn_form.proofs.BareVars.{vars_bare}
use Rattle.syn_parse.specs.Parsing.{IsTermSyntaxOfWords, OneSyntax}
use Rattle.syn_parse.specs.Written.{has_args, has_args_step, some_all}
use Rattle.syn_expr.specs.Limits.{term_levels, term_levels_step}
use Rattle.syn_expr.specs.Scopes.{listed}
use Rattle.syn_expr.specs.TextAnswers.{OneAtMost}
use Rattle.syn_expr.specs.inner.Proper.{all_true, is_proper_term, is_symbol_name, proper_term_step}
use Rattle.syn_expr.proofs.Fitting.{term_fit}
use Rattle.syn_expr.proofs.TermSyntaxes.{fold-Applied}
use Rattle.syn_model.specs.declared.decl.Decl.{Decl}
use Rattle.syn_model.specs.BareTrees.{bare_decl}
use Rattle.syn_model.specs.Clauses.{HasArguments}
use Rattle.syn_model.specs.Heads.{AreDistinct, IsNewName}
use Rattle.syn_model.specs.Tables.{table_of}
use Rattle.syn_model.proofs.BareDeclaring.{declared_bare}
use Rattle.syn_model.proofs.HeadStanding.{All-unmap}
use Rattle.syn_files.specs.TheoryLines.{AreLineNames, WritesClause, file_scope, own_name}
use Rattle.syn_files.specs.inner.ClauseReading.{AreArguments, BeginsClause, Front, IsCut, IsOther, ReadsFront, applied, text_of, vars_of}
use Rattle.syn_files.specs.inner.ClauseWords.{clause_names}
use Rattle.syn_files.proofs.ClauseLaws.{Clause, back_all, front_low, names_are, same_somes}
use Rattle.syn_files.proofs.ClauseNames.{all_some}
use Rattle.syn_files.proofs.ClauseWords.{Other, behind_s, clause_word, cut_same, front_words, same_args}

-- names as they are handed in
module _ {Z : Type 0} (xs : List (String Z × Var)) (ds : List Decl) where
  texts : map (λ (n : Named). n.text) (listed xs) ≡ map text_of xs
  texts = map-map (λ (n : Named). n.text) (λ (e : String Z × Var). record { text = string_bytes e.0; var = e.1 }) xs

  pub line_names : (All (λ e. IsNewName ds (text_of e)) xs × AreDistinct (map text_of xs)) ↔ AreLineNames (map bare_decl ds) (listed xs)
  line_names = (
    (λ h. record {
      new = All-map (λ (n : Named). IsNewName (map bare_decl ds) n.text) (λ (e : String Z × Var). record { text = string_bytes e.0; var = e.1 }) xs (λ k d lt. ((h.0 k d lt).0, λ u. (h.0 k d lt).1 ((declared_bare ds (text_of (get_or xs k d))).0 u)));
      distinct = subst AreDistinct (sym texts) h.1;
    }),
    (λ h. (
      (λ k d lt. let m = All-unmap (λ (n : Named). IsNewName (map bare_decl ds) n.text) (λ (e : String Z × Var). record { text = string_bytes e.0; var = e.1 }) xs h.new k d lt in (m.0, λ u. m.1 ((declared_bare ds (text_of (get_or xs k d))).1 u))),
      subst AreDistinct texts h.distinct,
    )),
  )

there_all : {A : Type 0} (xs : List A) → all_there (map Some xs) ≡ Some xs
there_all [] = refl
there_all (x ∷ xs) = ap (option_map (λ rest. x ∷ rest)) (there_all xs)

-- the arguments, in a scope as a reader has it
module _ (ds : List Decl) (ps : List TermSyntax) (names : List Named) (scope : TextScope) (same : scope ≡ file_scope (table_of ds) names) where
  abbrev Made : Option (List TermTree) → Type 0
  Made o = option_map (map bare) o ≡ all_there (map (elaborate_term scope) ps)

  pub arguments_made : (args : List TermTree) → AreLineNames ds names → Made (Some args) → vars_of names ≡ flat_map term_vars args → AreArguments ds ps names (map bare args)
  arguments_made args new e v = record {
    names_new = new;
    vars = v ∙ sym (vars_bare args);
    trees = subst (λ (s : TextScope). map (elaborate_term s) ps ≡ map Some (map bare args)) same (all_some (map (elaborate_term scope) ps) (map bare args) (sym e));
  }

  trees_there : (args : List TermTree) → AreArguments ds ps names args → all_there (map (elaborate_term scope) ps) ≡ Some args
  trees_there args a = ap all_there (ap (λ (s : TextScope). map (elaborate_term s) ps) same ∙ a.trees) ∙ there_all args

  pub no_trees : Made None → (args : List TermTree) → AreArguments ds ps names args → ⊥
  no_trees e args a = let n : None ≡ Some args = e ∙ trees_there args a in absurd (cc)

  pub no_vars : (made : List TermTree) → Made (Some made) → (vars_of names ≡ flat_map term_vars made → ⊥) → (args : List TermTree) → AreArguments ds ps names args → ⊥
  no_vars made e never args a =
      let b : map bare made ≡ args = same_Some (map bare made) args (e ∙ trees_there args a) in
      never (a.vars ∙ (ap (flat_map term_vars) (sym b) ∙ vars_bare made))

  abbrev Have : List TermTree → Type 0
  Have made = vars_of names ≡ flat_map term_vars made

  pub arguments_found : {E : Type 0} (made : List TermTree) → AreLineNames ds names → Made (Some made) → (r : Result (Option (List TermTree)) E) → IfOk r (λ o. MatchOption o (Have made → ⊥) (λ given. (given ≡ made) × Have made)) → IfOk r (λ o. MatchOption o ((args : List TermTree) → AreArguments ds ps names args → ⊥) (λ args. AreArguments ds ps names (map bare args)))
  arguments_found made new e (Ok None) h = no_vars made e h
  arguments_found made new e (Ok (Some given)) h = subst (λ (z : List TermTree). AreArguments ds ps names (map bare z)) (sym h.0) (arguments_made made new e h.1)
  arguments_found made new e (Err error) h = tt

pub one_arguments : (ds : List Decl) (ps : List TermSyntax) (names : List Named) (xs ys : List TermTree) → AreArguments ds ps names xs → AreArguments ds ps names ys → xs ≡ ys
one_arguments ds ps names xs ys a b = same_somes xs ys (sym a.trees ∙ b.trees)

some_args : (ps : List TermSyntax) → some_all (map has_args ps) ≡ true → 1 ≤ length ps
some_args [] e = absurd (cc)
some_args (p ∷ ps) e = omega arith

-- the front of a clause line
module _ (ds : List Decl) (sorts : List Sort) (front : List Word) (named : is_symbol_name (own_name ds) ≡ true) where
  abbrev own : List ℕ
  own = own_name ds

  own_proper : (ps : List TermSyntax) → is_proper_term (behind_s ps) ≡ true → is_proper_term (applied own ps) ≡ true
  own_proper [] h = absurd (let e = fold-Applied proper_term_step (head.Name (codes "s")) [] in cc)
  own_proper (p ∷ ps) h =
      let e = fold-Applied proper_term_step (head.Name (codes "s")) (p ∷ ps) in
      let f = fold-Applied proper_term_step (head.Name own) (p ∷ ps) in
      let a : all_true (map is_proper_term (p ∷ ps)) ≡ true = sym e ∙ h in
      f ∙ (rw named a)

  own_levels : (ps : List TermSyntax) → term_levels (applied own ps) ≡ term_levels (behind_s ps)
  own_levels ps = fold-Applied term_levels_step (head.Name own) ps ∙ sym (fold-Applied term_levels_step (head.Name (codes "s")) ps)

  module _ (args : List TermTree) (names : List Named) (b : BeginsClause ds sorts front args names) where
    pub front_read : IsTermSyntaxOfWords front (applied own b.writes.patterns)
    front_read =
        let low = front_low ds args names (name_word (codes "clause") ∷ front) b.writes sorts b.has in
        let fit = term_fit (applied own b.writes.patterns) (own_proper b.writes.patterns low.0) (subst (λ n. n ≤ 1264) (sym (own_levels b.writes.patterns)) low.1) in
        record { lexemes = (fit.1, ap (drop 1) b.writes.is); written = fit.0 }

    pub front_names : clause_names (table_of ds) sorts b.writes.patterns ≡ names
    front_names = names_are ds args names (name_word (codes "clause") ∷ front) b.writes sorts b.has

    pub front_arguments : AreArguments ds b.writes.patterns names args
    front_arguments = record { names_new = b.writes.names_new; vars = b.writes.vars; trees = b.writes.trees }

  -- no arguments behind the name
  pub no_front : ((ps : List TermSyntax) → IsTermSyntaxOfWords front (applied own ps) → ⊥) → ReadsFront ds sorts front None
  no_front none args names b = none b.writes.patterns (front_read args names b)

  module _ (ps : List TermSyntax) (read : IsTermSyntaxOfWords front (applied own ps)) (one : OneSyntax (IsTermSyntaxOfWords front)) where
    same_patterns : (args : List TermTree) (names : List Named) (b : BeginsClause ds sorts front args names) → b.writes.patterns ≡ ps
    same_patterns args names b = same_args (head.Name own) b.writes.patterns ps (one (applied own b.writes.patterns) (applied own ps) (front_read args names b) read)

    same_names : (args : List TermTree) (names : List Named) (b : BeginsClause ds sorts front args names) → names ≡ clause_names (table_of ds) sorts ps
    same_names args names b = sym (front_names args names b) ∙ ap (clause_names (table_of ds) sorts) (same_patterns args names b)

    module _ (given : List Named) (told : given ≡ clause_names (table_of ds) sorts ps) where
      their_arguments : (args : List TermTree) (names : List Named) (b : BeginsClause ds sorts front args names) → AreArguments ds ps given args
      their_arguments args names b =
          subst (λ (z : List Named). AreArguments ds ps z args) (same_names args names b ∙ sym told)
          (subst (λ (z : List TermSyntax). AreArguments ds z names args) (same_patterns args names b) (front_arguments args names b))

      -- none of the terms, or other names
      pub no_arguments : ((args : List TermTree) → AreArguments ds ps given args → ⊥) → ReadsFront ds sorts front None
      no_arguments none args names b = none args (their_arguments args names b)

      some_patterns : 1 ≤ length ps
      some_patterns = some_args ps (sym (fold-Applied has_args_step (head.Name own) ps) ∙ read.written.0)

      pub front_told : (args : List TermTree) → AreArguments ds ps given args → ReadsFront ds sorts front (Some (record { names = given; args = args }))
      front_told args a = (
        record { patterns = ps; some = some_patterns; is = ap (λ (z : List Word). name_word (codes "clause") ∷ z) read.lexemes.1; names_new = a.names_new; vars = a.vars; trees = a.trees },
        (λ xs names b. (one_arguments ds ps given xs args (their_arguments xs names b) a, same_names xs names b ∙ sym told)),
      )

      -- the same of a front as code has it
      module _ {E F : Type 0} (n : F → List Named) (a : F → List TermTree) where
        pub front_found : (r : Result (Option F) E) → IfOk r (λ o. MatchOption o ((args : List TermTree) → AreArguments ds ps given args → ⊥) (λ f. (n f ≡ given) × AreArguments ds ps given (a f))) → IfOk r (λ o. MatchOption o (ReadsFront ds sorts front None) (λ f. ReadsFront ds sorts front (Some (record { names = n f; args = a f }))))
        front_found (Ok None) h = no_arguments h
        front_found (Ok (Some f)) h = subst (λ (z : List Named). ReadsFront ds sorts front (Some (record { names = z; args = a f }))) (sym h.0) (front_told (a f) h.1)
        front_found (Err error) h = tt

-- a clause of a line that is cut
module _ (ds : List Decl) (sign : List ℕ) (no_sign : (s : TermSyntax) → All (Other (sign_word sign)) (front_words s)) {B : Type 0} (Stands : List Named → List Word → B → Type 0) (ws : List Word) where
  abbrev Writ : List TermTree → B → Type 0
  Writ = Clause ds sign no_sign Stands ws

  clean : (args : List TermTree) (body : B) (c : Writ args body) → All (Other (sign_word sign)) c.1
  clean args body c = subst (All (Other (sign_word sign))) (sym c.3.is) (no_sign (applied (own_name ds) c.3.patterns))

  -- where the sign isn't among the words there is none
  pub never_cut : All (IsOther sign) ws → (args : List TermTree) (body : B) → Writ args body → ⊥
  never_cut others args body c =
      let all : All (Other (sign_word sign)) (name_word (codes "clause") ∷ ws) = All-cons (Other (sign_word sign)) (name_word (codes "clause")) ws (clause_word sign) others in
      All-head (Other (sign_word sign)) (sign_word sign) c.2 (back_all (Other (sign_word sign)) c.1 (sign_word sign ∷ c.2) (subst (All (Other (sign_word sign))) c.5 all)) refl

  module _ (front back : List Word) (cut : IsCut sign ws front back) where
    clause_cut : name_word (codes "clause") ∷ ws ≡ (name_word (codes "clause") ∷ front) ++ sign_word sign ∷ back
    clause_cut = ap (λ (z : List Word). name_word (codes "clause") ∷ z) cut.is

    -- its parts are these
    pub clause_parts : (args : List TermTree) (body : B) → Writ args body → (names : List Named) × WritesClause ds (own_name ds) args names (name_word (codes "clause") ∷ front) × Stands names back body
    clause_parts args body c =
        let s = cut_same c.1 (name_word (codes "clause") ∷ front) c.2 back (sign_word sign) (clean args body c) (All-cons (Other (sign_word sign)) (name_word (codes "clause")) front (clause_word sign) cut.others) (sym c.5 ∙ clause_cut) in
        (c.0, subst (WritesClause ds (own_name ds) args c.0) s.0 c.3, subst (λ (z : List Word). Stands c.0 z body) s.1 c.4)

    -- these parts make it
    pub clause_of : (args : List TermTree) (names : List Named) (body : B) → WritesClause ds (own_name ds) args names (name_word (codes "clause") ∷ front) → Stands names back body → Writ args body
    clause_of args names body w s = (names, name_word (codes "clause") ∷ front, back, w, s, clause_cut)

    module _ (sorts : List Sort) where
      begins : (args : List TermTree) (body : B) → HasArguments (table_of ds) sorts args → (c : Writ args body) → BeginsClause ds sorts front args (clause_parts args body c).0
      begins args body h c = record { writes = (clause_parts args body c).1; has = h }

      pub frontless : ReadsFront ds sorts front None → (args : List TermTree) (body : B) → HasArguments (table_of ds) sorts args → Writ args body → ⊥
      frontless none args body h c = none args (clause_parts args body c).0 (begins args body h c)

      module _ (f : Front) (told : ReadsFront ds sorts front (Some f)) where
        their_body : (args : List TermTree) (body : B) → HasArguments (table_of ds) sorts args → Writ args body → (args ≡ f.args) × Stands f.names back body
        their_body args body h c =
            let p = clause_parts args body c in
            let e = told.1 args p.0 (begins args body h c) in
            (e.0, subst (λ (z : List Named). Stands z back body) e.1 p.2)

        pub bodiless : ((body : B) → Stands f.names back body → ⊥) → (args : List TermTree) (body : B) → HasArguments (table_of ds) sorts args → Writ args body → ⊥
        bodiless none args body h c = none body (their_body args body h c).1

        pub clause_written : (body : B) → Stands f.names back body → Writ f.args body
        clause_written body s = clause_of f.args f.names body told.0 s

        pub no_other : (body : B) → Stands f.names back body → OneAtMost (Stands f.names back) → (args : List TermTree) (other : B) → HasArguments (table_of ds) sorts args → Writ args other → (args ≡ f.args) × (other ≡ body)
        no_other body s one args other h c = let p = their_body args other h c in (p.0, one other body p.1 s)
