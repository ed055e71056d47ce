-- Printed parts of a specification read back.
use Rattle.std.proofs.Common.{◌≡◌, ◌≢◌, inl, ℕ, ◌+◌, ◌<◌, ◌≤◌, false, List, [], ◌∷◌, ◌++◌, All, Contains, codes, length, map, refl, sym, ◌∙◌, ap, subst, arith}
use Rattle.std.proofs.lemmas.List.Elements.{All-cons, All-contains, All-from_recursion, All-head, All-nil, All-tail, All-weaker}
use Rattle.syn_term.specs.declared.sorts.Var.{Var}
use Rattle.syn_term.specs.DeclaredSorts.{IsTable}
use Rattle.syn_term.specs.Names.{IsName, reserved}
use Rattle.syn_term.specs.Symbols.{SymbolTable}
use Rattle.syn_term.specs.Tokens.{Spelled, Word}
use Rattle.syn_form.specs.declared.syntax.Lexeme.{Lexeme}
use Rattle.syn_form.specs.declared.trees.Binder.{Binder}
use Rattle.syn_form.specs.Grammar.{name_word, spelling, with_commas, words_of_form}
use Rattle.syn_form.specs.Plain.{HasOneSortEach}
use Rattle.syn_form.specs.PlainQuantified.{IsPlainQForm, binders_of}
use Rattle.syn_form.specs.Printing.{printed_form, printed_qform}
use Rattle.syn_form.specs.Quantified.{bare_qform, free_vars, qform_depth, qform_nodes}
use Rattle.syn_form.specs.Scopes.{Named}
use Rattle.syn_form.specs.Texts.{IsQFormOf, expression_limit}
use Rattle.syn_form.specs.Trees.{FormTree, QFormTree, bare_form, form_vars}
use Rattle.syn_form.specs.Writing.{CanWriteAll, CanWriteTable}
use Rattle.syn_form.proofs.BareVars.{qform_vars_bare}
use Rattle.syn_form.proofs.Lists.{Contains-head}
use Rattle.syn_model.specs.declared.decl.Decl.{Decl}
use Rattle.syn_model.specs.declared.spec_part.SpecPart.{SpecPart}
use Rattle.syn_model.specs.declared.spec_part.SpecPart.TheVariants as part
use Rattle.syn_model.specs.BareParts.{bare_part, bare_spec_tree}
use Rattle.syn_model.specs.Declaring.{IsOtherwiseFree, IsTheory}
use Rattle.syn_model.specs.Specifications.{AsksPart, IsOrderOn, IsSpec, MayBePrimitive, MayBeTaken, MayEnsure, MayRequire, NamesSymbol, SpecTree, output_var}
use Rattle.syn_model.specs.Heads.{sorts_of}
use Rattle.syn_model.specs.Tables.{table_of}
use Rattle.syn_expr.specs.Readable.{CanReadQForm}
use Rattle.syn_expr.specs.Told.{TellsApart}
use Rattle.syn_expr.proofs.BackForms.{qform_back}
use Rattle.syn_expr.proofs.BareCounts.{qform_depth_bare, qform_nodes_bare}
use Rattle.syn_expr.proofs.FormPuts.{qform_puts}
use Rattle.syn_expr.proofs.Puts.{EachPuts, Puts, commas_puts, spelled_alone, token_puts, word_then_space}
use Rattle.syn_expr.proofs.ToldForms.{Sound, qform_told}
use Rattle.syn_expr.proofs.TreeReadings.{qform_written}
use Rattle.syn_files.specs.Printed.{comma_list}
use Rattle.syn_files.specs.PrintedSpec.{IsPartWithinLimit, printed_part}
use Rattle.syn_files.specs.SpecLines.{WritesPart, name_words, output_names}
use Rattle.syn_files.specs.TheoryLines.{file_scope}
use Rattle.syn_files.specs.Words.{listed_words, singly}
use Rattle.syn_files.proofs.ExprBack.{Stands, form_stands, names_over, none_apart}
use Rattle.syn_files.proofs.LineNames.{IsPart}
use Rattle.syn_files.proofs.OrderBack.{order_name}
use Rattle.syn_files.proofs.SimpleBack.{name_lexeme}
use Rattle.syn_files.proofs.SpecTables.{one_of, order_is_name, primitive_is_name, spec_apart, spec_good, spec_writes, taken_is_name}
use Rattle.syn_files.proofs.Spellings.{IsOther, alone, keyword_name, listed_spelled}

pub requires_name : IsName (codes "requires")
requires_name = keyword_name 114 (101 ∷ 113 ∷ 117 ∷ 105 ∷ 114 ∷ 101 ∷ 115 ∷ []) (omega arith) refl (All-from_recursion IsPart (codes "requires") ((omega arith, refl), ((omega arith, refl), ((omega arith, refl), ((omega arith, refl), ((omega arith, refl), ((omega arith, refl), ((omega arith, refl), ((omega arith, refl), tt))))))))) (omega arith) (All-from_recursion (IsOther (codes "requires")) reserved (refl, (refl, (refl, (refl, (refl, (refl, (refl, (refl, (refl, (refl, (refl, (refl, (refl, (refl, (refl, tt))))))))))))))))

pub ensures_name : IsName (codes "ensures")
ensures_name = keyword_name 101 (110 ∷ 115 ∷ 117 ∷ 114 ∷ 101 ∷ 115 ∷ []) (omega arith) refl (All-from_recursion IsPart (codes "ensures") ((omega arith, refl), ((omega arith, refl), ((omega arith, refl), ((omega arith, refl), ((omega arith, refl), ((omega arith, refl), ((omega arith, refl), tt)))))))) (omega arith) (All-from_recursion (IsOther (codes "ensures")) reserved (refl, (refl, (refl, (refl, (refl, (refl, (refl, (refl, (refl, (refl, (refl, (refl, (refl, (refl, (refl, tt))))))))))))))))

pub primitive_name : IsName (codes "primitive")
primitive_name = keyword_name 112 (114 ∷ 105 ∷ 109 ∷ 105 ∷ 116 ∷ 105 ∷ 118 ∷ 101 ∷ []) (omega arith) refl (All-from_recursion IsPart (codes "primitive") ((omega arith, refl), ((omega arith, refl), ((omega arith, refl), ((omega arith, refl), ((omega arith, refl), ((omega arith, refl), ((omega arith, refl), ((omega arith, refl), ((omega arith, refl), tt)))))))))) (omega arith) (All-from_recursion (IsOther (codes "primitive")) reserved (refl, (refl, (refl, (refl, (refl, (refl, (refl, (refl, (refl, (refl, (refl, (refl, (refl, (refl, (refl, tt))))))))))))))))

pub use_name : IsName (codes "use")
use_name = keyword_name 117 (115 ∷ 101 ∷ []) (omega arith) refl (All-from_recursion IsPart (codes "use") ((omega arith, refl), ((omega arith, refl), ((omega arith, refl), tt)))) (omega arith) (All-from_recursion (IsOther (codes "use")) reserved (refl, (refl, (refl, (refl, (refl, (refl, (refl, (refl, (refl, (refl, (refl, (refl, (refl, (refl, (refl, tt))))))))))))))))

-- a plain formula whose free variables have names in the scope, and whose binders have others
module _ (table : SymbolTable) (names : List Named) (good : IsTable table) (written : CanWriteAll (file_scope table names)) (apart : TellsApart table names) where
  pub open_stands : (f : QFormTree) → IsPlainQForm table f → All (λ n. n.var.number < 1) names → ((b : Binder) → Contains (binders_of f) b → (n : Named) → Contains names n → n.text ≢ b.name) → ((v : Var) → Contains (free_vars f) v → Contains (map (λ (n : Named). n.var) names) v) → qform_nodes f ≤ expression_limit.nodes → qform_depth f ≤ expression_limit.depth → Stands (IsQFormOf expression_limit (file_scope table names)) (printed_qform (file_scope table names) f) (bare_qform f)
  open_stands f plain below others among few shallow =
      let scope = file_scope table names in
      let sound : Sound scope 1 (binders_of f) (free_vars f) = record {
        over = names_over table names good written apart;
        file = refl;
        apart = apart;
        below = below;
        binders = plain.binders;
        others = others;
        from = plain.numbered;
        named = among;
      } in
      let can : CanReadQForm scope f = qform_told f scope 1 plain.formed plain.once sound in
      record {
        lexemes = words_of_form (qform_written f scope).whole;
        puts = (qform_puts f scope plain.formed can).0;
        stands = record {
          reading = (qform_written f scope).whole;
          next = 1 + length (binders_of f);
          written = refl;
          tree = qform_back f scope 1 plain.formed can plain.numbered;
          sorts = subst HasOneSortEach (sym (qform_vars_bare f)) plain.sorts;
          few = subst (λ n. n ≤ expression_limit.nodes) (sym (qform_nodes_bare f)) few;
          shallow = subst (λ n. n ≤ expression_limit.depth) (sym (qform_depth_bare f)) shallow;
        };
      }

-- the line is words that say the part
pub record PartTold (s : SpecTree) (p : SpecPart) (text : List ℕ) : Type 0 where
  pub words : List Word
  pub spelled : Spelled text words
  pub writes : WritesPart s p words

pub none_named : (vars : List Var) → vars ≡ [] → All (Contains (map (λ (n : Named). n.var) [])) vars
none_named [] e = All-nil (Contains (map (λ (n : Named). n.var) []))
none_named (v ∷ vs) e = absurd (cc)

-- names with commas between
names_put : (names : List (List ℕ)) → All IsName names → EachPuts names (map alone (map name_lexeme names))
names_put [] h = tt
names_put (n ∷ ns) h = (token_puts (name_lexeme n) (inl (All-head IsName n ns h)), names_put ns (All-tail IsName n ns h))

names_spelled : (names : List (List ℕ)) → map spelling (map name_lexeme names) ≡ map name_word names
names_spelled [] = refl
names_spelled (n ∷ ns) = ap (λ (z : List Word). name_word n ∷ z) (names_spelled ns)

list_puts : (names : List (List ℕ)) → 1 ≤ length names → All IsName names → Puts (comma_list names) (with_commas (map alone (map name_lexeme names)))
list_puts [] some h = absurd (omega (arith, some))
list_puts (n ∷ ns) some h = let each = names_put (n ∷ ns) h in commas_puts n (name_lexeme n ∷ []) ns (map alone (map name_lexeme ns)) each.0 each.1

module _ (k : List ℕ) (is : IsName k) (names : List (List ℕ)) (some : 1 ≤ length names) (named : All IsName names) where
  abbrev lexemes : List Lexeme
  lexemes = name_lexeme k ∷ with_commas (map alone (map name_lexeme names))

  list_spelled : Spelled (k ++ 32 ∷ comma_list names) (map spelling lexemes)
  list_spelled = spelled_alone (k ++ 32 ∷ comma_list names) lexemes (word_then_space (name_lexeme k) (comma_list names) (with_commas (map alone (map name_lexeme names))) (inl is) (list_puts names some named).words).words

  list_words : map spelling lexemes ≡ name_word k ∷ name_words names
  list_words = ap (λ (z : List Word). name_word k ∷ z) (listed_spelled (map name_lexeme names) ∙ ap (λ (z : List Word). listed_words (singly z)) (names_spelled names))

-- the parts, over a specification
module _ (ds : List Decl) (theory : IsTheory ds) (s : SpecTree) (is : IsSpec ds s) where
  abbrev good : IsTable s.table
  good = spec_good ds theory s is

  abbrev writes : CanWriteTable false s.table
  writes = spec_writes ds theory s is

  requires_told : (f : FormTree) → MayRequire ds s f → IsPartWithinLimit (part.Requires f) → PartTold (bare_spec_tree s) (part.Requires (bare_form f)) (printed_part s (part.Requires f))
  requires_told f may limit =
      let body = form_stands s.table [] good writes (none_apart s.table) f may.plain (none_named (form_vars f) may.closed) limit.0 limit.1 in
      let lexemes = name_lexeme (codes "requires") ∷ body.lexemes in
      let line = word_then_space (name_lexeme (codes "requires")) (printed_form (file_scope s.table []) f) body.lexemes (inl requires_name) body.puts in
      record {
        words = map spelling lexemes;
        spelled = spelled_alone (printed_part s (part.Requires f)) lexemes line.words;
        writes = (map spelling body.lexemes, body.stands, refl);
      }

  abbrev output : Named
  output = record { text = s.output; var = output_var s }

  -- the output is the only name that is there
  only_output : (n : Named) → Contains (output_names s) n → n.text ≡ s.output
  only_output n c = sym (ap (λ (z : Named). z.text) (one_of output n c))

  ensures_told : (f : QFormTree) → MayEnsure ds s f → IsPartWithinLimit (part.Ensures f) → PartTold (bare_spec_tree s) (part.Ensures (bare_qform f)) (printed_part s (part.Ensures f))
  ensures_told f may limit =
      let below : All (λ (n : Named). n.var.number < 1) (output_names s) = All-cons (λ (n : Named). n.var.number < 1) output [] (omega arith) (All-nil (λ (n : Named). n.var.number < 1)) in
      let others : (b : Binder) → Contains (binders_of f) b → (n : Named) → Contains (output_names s) n → n.text ≢ b.name = λ b c n d e. other f may b c (sym e ∙ only_output n d) in
      let among : (v : Var) → Contains (free_vars f) v → Contains (map (λ (n : Named). n.var) (output_names s)) v = λ v c. subst (Contains (output_var s ∷ [])) (sym (free f may v c)) (Contains-head (output_var s) []) in
      let body = open_stands s.table (output_names s) good writes (spec_apart ds theory s is) f may.plain below others among limit.0 limit.1 in
      let lexemes = name_lexeme (codes "ensures") ∷ body.lexemes in
      let line = word_then_space (name_lexeme (codes "ensures")) (printed_qform (file_scope s.table (output_names s)) f) body.lexemes (inl ensures_name) body.puts in
      record {
        words = map spelling lexemes;
        spelled = spelled_alone (printed_part s (part.Ensures f)) lexemes line.words;
        writes = (map spelling body.lexemes, body.stands, refl);
      }
    where
      other : (f : QFormTree) → MayEnsure ds s f → (b : Binder) → Contains (binders_of f) b → b.name ≢ s.output
      other f may b c = (All-contains (λ (z : Binder). IsOtherwiseFree ds z.name × (z.name ≢ s.output)) (binders_of f) b may.bound c).1

      free : (f : QFormTree) → MayEnsure ds s f → (v : Var) → Contains (free_vars f) v → v ≡ output_var s
      free f may v c = All-contains (λ (z : Var). z ≡ output_var s) (free_vars f) v may.over c

  order_told : (name : List ℕ) → IsName name → PartTold (bare_spec_tree s) (part.Order name) (printed_part s (part.Order name))
  order_told name named =
      let lexemes = name_lexeme (codes "order") ∷ name_lexeme name ∷ [] in
      let line = word_then_space (name_lexeme (codes "order")) name (name_lexeme name ∷ []) (inl order_name) (token_puts (name_lexeme name) (inl named)).words in
      record { words = map spelling lexemes; spelled = spelled_alone (printed_part s (part.Order name)) lexemes line.words; writes = refl }

  primitive_told : (names : List (List ℕ)) → 1 ≤ length names → All IsName names → PartTold (bare_spec_tree s) (part.Primitive names) (printed_part s (part.Primitive names))
  primitive_told names some named = record {
    words = map spelling (name_lexeme (codes "primitive") ∷ with_commas (map alone (map name_lexeme names)));
    spelled = list_spelled (codes "primitive") primitive_name names some named;
    writes = list_words (codes "primitive") primitive_name names some named;
  }

  taken_told : (names : List (List ℕ)) → 1 ≤ length names → All IsName names → PartTold (bare_spec_tree s) (part.Taken names) (printed_part s (part.Taken names))
  taken_told names some named = record {
    words = map spelling (name_lexeme (codes "use") ∷ with_commas (map alone (map name_lexeme names)));
    spelled = list_spelled (codes "use") use_name names some named;
    writes = list_words (codes "use") use_name names some named;
  }

  -- the line of any part
  pub part_told : (p : SpecPart) → AsksPart ds s p → IsPartWithinLimit p → PartTold (bare_spec_tree s) (bare_part p) (printed_part s p)
  part_told (part.Requires form) asks limit = requires_told form asks limit
  part_told (part.Ensures form) asks limit = ensures_told form asks limit
  part_told (part.Order name) asks limit = order_told name (order_is_name ds theory (IsOrderOn (sorts_of s.head.inputs)) (λ z h. h.0) name asks)
  part_told (part.Primitive names) asks limit = primitive_told names asks.some (All-weaker (NamesSymbol (table_of ds) MayBePrimitive) IsName (primitive_is_name ds theory) names asks.each)
  part_told (part.Taken names) asks limit = taken_told names asks.some (All-weaker (MayBeTaken ds) IsName (taken_is_name ds theory) names asks.each)
