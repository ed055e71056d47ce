-- Private: the machine that puts quantifiers together, one word at a time.
use Rattle.std.specs.Prelude.{ℕ, List, [], ◌∷◌, ◌++◌, Option, None, Some, codes}
use Rattle.std.specs.List.{flat_map}
use Rattle.std.specs.Option.{option_and_then, option_map}
use Rattle.syn_form.specs.declared.syntax.Mark.TheVariants as mark
use Rattle.syn_form.specs.declared.syntax.Lexeme.{Lexeme}
use Rattle.syn_form.specs.declared.syntax.Lexeme.TheVariants as lexeme
use Rattle.syn_form.specs.declared.syntax.Quantifier.{Quantifier}
use Rattle.syn_form.specs.declared.syntax.Quantifier.TheVariants as quantifier
use Rattle.syn_form.specs.declared.syntax.BinderSyntax.{BinderSyntax}
use Rattle.syn_form.specs.Grammar.{words_of_quantifier}
use Rattle.syn_parse.specs.declared.phrase_reader.Phrase.{Phrase}
use Rattle.syn_parse.specs.declared.phrase_reader.Phrase.TheVariants as phrase
use Rattle.syn_parse.specs.declared.phrase_reader.BinderStage.{BinderStage}
use Rattle.syn_parse.specs.declared.phrase_reader.BinderStage.TheVariants as stage
use Rattle.syn_parse.specs.declared.phrase_reader.Binding.{Binding}
use Rattle.syn_parse.specs.declared.phrase_reader.PhraseReader.{PhraseReader}

-- the words of a phrase
abbrev pub words_of_phrase : Phrase → List Lexeme
words_of_phrase (phrase.Word l) = l ∷ []
words_of_phrase (phrase.Quantifier q binders) = words_of_quantifier q binders

abbrev pub words_of_phrases : List Phrase → List Lexeme
words_of_phrases = flat_map words_of_phrase

abbrev pub closed : List Phrase → PhraseReader
closed done = record { done = done; pending = None }

-- a quantifier is open at this stage
abbrev pub holds : List Phrase → Quantifier → List BinderSyntax → BinderStage → PhraseReader
holds done q binders s = record { done = done; pending = Some (record { quantifier = q; binders = binders; stage = s }) }

abbrev pub word : List Phrase → Lexeme → PhraseReader
word done l = closed (done ++ phrase.Word l ∷ [])

abbrev pub outside : List Phrase → Lexeme → PhraseReader
outside done (lexeme.Fixed mark.ForAll) = holds done quantifier.All [] stage.Name
outside done (lexeme.Fixed mark.ForSome) = holds done quantifier.Exists [] stage.Name
outside done l = word done l

abbrev pub name_next : List Phrase → Quantifier → List BinderSyntax → Lexeme → Option PhraseReader
name_next done q binders (lexeme.Name x) = Some (holds done q binders (stage.Colon x))
name_next done q binders _ = None

abbrev pub colon_next : List Phrase → Quantifier → List BinderSyntax → List ℕ → Lexeme → Option PhraseReader
colon_next done q binders x (lexeme.Fixed mark.Colon) = Some (holds done q binders (stage.Sort x))
colon_next done q binders x _ = None

abbrev pub sort_of : Lexeme → Option (List ℕ)
sort_of (lexeme.Fixed mark.Nat) = Some (codes "nat")
sort_of (lexeme.Name s) = Some s
sort_of _ = None

abbrev pub with_binder : List BinderSyntax → List ℕ → List ℕ → List BinderSyntax
with_binder binders x s = binders ++ record { name = x; sort = s } ∷ []

abbrev pub sort_next : List Phrase → Quantifier → List BinderSyntax → List ℕ → Lexeme → Option PhraseReader
sort_next done q binders x l = option_map (λ s. holds done q (with_binder binders x s) stage.Next) (sort_of l)

abbrev pub stop_next : List Phrase → Quantifier → List BinderSyntax → Lexeme → Option PhraseReader
stop_next done q binders (lexeme.Fixed mark.Comma) = Some (holds done q binders stage.Name)
stop_next done q binders (lexeme.Fixed mark.Dot) = Some (closed (done ++ phrase.Quantifier q binders ∷ []))
stop_next done q binders _ = None

abbrev pub at : List Phrase → Quantifier → List BinderSyntax → BinderStage → Lexeme → Option PhraseReader
at done q binders stage.Name l = name_next done q binders l
at done q binders (stage.Colon x) l = colon_next done q binders x l
at done q binders (stage.Sort x) l = sort_next done q binders x l
at done q binders stage.Next l = stop_next done q binders l

abbrev pub inside : List Phrase → Binding → Lexeme → Option PhraseReader
inside done b l = at done b.quantifier b.binders b.stage l

abbrev pub step_at : Option Binding → List Phrase → Lexeme → Option PhraseReader
step_at None done l = Some (outside done l)
step_at (Some b) done l = inside done b l

-- one word
abbrev pub step : PhraseReader → Lexeme → Option PhraseReader
step r l = step_at r.pending r.done l

abbrev pub run : List Lexeme → PhraseReader → Option PhraseReader
run [] r = Some r
run (l ∷ ls) r = option_and_then (run ls) (step r l)

abbrev pub ended_at : Option Binding → List Phrase → Option (List Phrase)
ended_at None done = Some done
ended_at (Some b) done = None

abbrev pub ended : PhraseReader → Option (List Phrase)
ended r = ended_at r.pending r.done

-- the phrases of a text
abbrev pub phrases_of : List Lexeme → Option (List Phrase)
phrases_of ls = option_and_then ended (run ls (closed []))
