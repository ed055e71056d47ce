-- Whatever the reader of outputs reads is a reading of the grammar: the items read so far are the items of what it holds.
use Rattle.std.proofs.Common.{◌≡◌, ℕ, ◌+◌, ◌≤◌, ◌<◌, max, nat_lt, Bool, true, false, List, [], ◌∷◌, ◌++◌, map, Option, None, Some, option_map, refl, sym, ◌∙◌, ap, subst, arith, append_assoc, append-nil}
use Rattle.std.proofs.lemmas.Option.{option_and_then_some}
use Rattle.std.proofs.lemmas.Bool.Decides.{nat_tests}
use Rattle.syn_form.specs.declared.syntax.Mark.{Mark}
use Rattle.syn_form.specs.declared.syntax.Mark.TheVariants as mark
use Rattle.syn_form.specs.declared.syntax.TermSyntax.{TermSyntax}
use Rattle.syn_form.specs.declared.syntax.FormSyntax.{FormSyntax}
use Rattle.syn_form.specs.declared.syntax.OutSyntax.{OutSyntax}
use Rattle.syn_form.specs.declared.syntax.OutSyntax.TheVariants as out
use Rattle.syn_form.specs.declared.syntax.OutSyntax.TheViews as out_view
use Rattle.syn_form.specs.Grammar.{FormText, OutText, give, choice, syntax_of_form, syntax_of_out}
use Rattle.syn_parse.specs.declared.items.Item.{Item}
use Rattle.syn_parse.specs.declared.items.Item.TheVariants as item
use Rattle.syn_parse.specs.declared.form_frames.Tall.{Tall}
use Rattle.syn_parse.specs.declared.out_reader.TallOut.{TallOut}
use Rattle.syn_parse.specs.declared.out_reader.Arm.{Arm}
use Rattle.syn_parse.specs.declared.out_reader.Arm.TheVariants as arm
use Rattle.syn_parse.specs.declared.out_reader.OutReader.{OutReader}
use Rattle.syn_parse.specs.inner.Items.{items_of_form, items_of_out}
use Rattle.syn_parse.specs.Heights.{height_of, out_height, max_height}
use Rattle.syn_parse.specs.inner.FormMachine as tests
use Rattle.syn_parse.specs.inner.OutMachine.{built, choice_of, given, wanted, testing, here, came, mark_first, test_mark, test_next, then_next, else_next, mark_after, step, run, start, ended, parsed}
use Rattle.syn_parse.proofs.FormLevels.{tall, cond_at}
use Rattle.syn_parse.proofs.FormSteps as forms
use Rattle.syn_parse.proofs.FormSound as form_sound
use Rattle.syn_parse.proofs.OutComplete.{height-Give, height-If, tall_out}

abbrev fixed : Mark → Item
fixed m = item.Fixed m

-- a choice that is open: its first arm is being read, or its second
data ArmText : Type 0 where
  first_arm : FormText → ArmText
  second_arm : FormText → OutText → ArmText

abbrev seen_arm : ArmText → Arm
seen_arm (first_arm f) = arm.Then (tall (syntax_of_form f))
seen_arm (second_arm f o) = arm.Else (tall (syntax_of_form f)) (tall_out (syntax_of_out o))

abbrev text_arm : ArmText → List Item
text_arm (first_arm f) = fixed mark.If ∷ (items_of_form f ++ fixed mark.Then ∷ [])
text_arm (second_arm f o) = fixed mark.If ∷ (items_of_form f ++ fixed mark.Then ∷ (items_of_out o ++ fixed mark.Else ∷ []))

abbrev text_arms : List ArmText → List Item
text_arms [] = []
text_arms (a ∷ arms) = text_arms arms ++ text_arm a

-- what was read: an output is wanted, or a test is being read, or an output is there
data Ghost : Type 0 where
  wanting : List ArmText → Ghost
  inside : List ArmText → forms.Ghost → Ghost
  having : List ArmText → OutText → Ghost

-- the reader that holds it
abbrev seen : Ghost → OutReader
seen (wanting arms) = wanted (map seen_arm arms)
seen (inside arms g) = testing (map seen_arm arms) (forms.seen g)
seen (having arms w) = here (map seen_arm arms) (tall_out (syntax_of_out w))

abbrev text : Ghost → List Item
text (wanting arms) = text_arms arms
text (inside arms g) = text_arms arms ++ fixed mark.If ∷ form_sound.text g
text (having arms w) = text_arms arms ++ items_of_out w

abbrev Fine : Ghost → Type 0
Fine (wanting arms) = arms ≡ arms
Fine (inside arms g) = form_sound.Fine g
Fine (having arms w) = out_height (syntax_of_out w) ≤ 1264

record After (g : Ghost) (i : Item) (r : OutReader) : Type 0 where
  next : Ghost
  is : seen next ≡ r
  told : text next ≡ text g ++ i ∷ []
  fine : Fine next

-- what is made is low, and kept with its height
record Made (o : OutSyntax) (x : TallOut) : Type 0 where
  is : tall_out o ≡ x
  low : out_height o ≤ 1264

built_some : (o : OutSyntax) (n : ℕ) (x : TallOut) → out_height o ≡ 1 + n → built o n ≡ Some x → Made o x
built_some o n x h e = by (nat_lt n max_height) refl
  where
    by : (b : Bool) → nat_lt n max_height ≡ b → Made o x
    by true t =
        let lt : n < max_height = grind (arith, nat_tests) in
        let at : built o n ≡ Some (record { out = o; height = n + 1 }) = cond_at (nat_lt n max_height) true (Some (record { out = o; height = n + 1 })) None t in
        let same : Some (record { out = o; height = n + 1 }) ≡ Some x = sym at ∙ e in
        let m : out_height o ≡ n + 1 = omega (arith, h) in
        record { is = ap (λ (z : ℕ). record { out = o; height = z }) m ∙ cc; low = omega (arith, h, lt) }
    by false t =
        let at : built o n ≡ None = cond_at (nat_lt n max_height) false (Some (record { out = o; height = n + 1 })) None t in
        let no : None ≡ Some x = sym at ∙ e in absurd (cc)

choice_some : (f : FormSyntax) (a b : OutSyntax) (x : TallOut) → choice_of (tall f) (tall_out a) (tall_out b) ≡ Some x → Made (out_view.If f a b) x
choice_some f a b x e = built_some (out_view.If f a b) (max (height_of f) (max (out_height a) (out_height b))) x (height-If f a b) e

-- an output came, and ended some of the choices
record Came (arms : List ArmText) (w : OutText) (r : OutReader) : Type 0 where
  left : List ArmText
  made : OutText
  is : here (map seen_arm left) (tall_out (syntax_of_out made)) ≡ r
  told : text_arms left ++ items_of_out made ≡ text_arms arms ++ items_of_out w
  low : out_height (syntax_of_out made) ≤ 1264

told_choice : (arms : List ArmText) (f : FormText) (a w : OutText) → text_arms arms ++ items_of_out (choice f a w) ≡ text_arms (second_arm f a ∷ arms) ++ items_of_out w
told_choice arms f a w = simp append_assoc

came_sound : (arms : List ArmText) (w : OutText) (r : OutReader) → out_height (syntax_of_out w) ≤ 1264 → came (map seen_arm arms) (tall_out (syntax_of_out w)) ≡ Some r → Came arms w r
came_sound [] w r l e = record { left = []; made = w; is = cc; told = refl; low = l }
came_sound (first_arm f ∷ arms) w r l e = record { left = first_arm f ∷ arms; made = w; is = cc; told = refl; low = l }
came_sound (second_arm f a ∷ arms) w r l e =
    option_and_then_some (came (map seen_arm arms)) (choice_of (tall (syntax_of_form f)) (tall_out (syntax_of_out a)) (tall_out (syntax_of_out w))) r e (λ x one more.
    let c = choice_some (syntax_of_form f) (syntax_of_out a) (syntax_of_out w) x one in
    let n = came_sound arms (choice f a w) r c.low (ap (came (map seen_arm arms)) c.is ∙ more) in
    record { left = n.left; made = n.made; is = n.is; told = n.told ∙ told_choice arms f a w; low = n.low })

map_some : {A B : Type 0} (k : A → B) (o : Option A) (r : B) → option_map k o ≡ Some r → (x : A) × (o ≡ Some x) × (k x ≡ r)
map_some k None r e = absurd (cc)
map_some k (Some x) r e = (x, refl, cc)

term_sound : (arms : List ArmText) (t : TermSyntax) (r : OutReader) → came (map seen_arm arms) (given t) ≡ Some r → After (wanting arms) (item.Term t) r
term_sound arms t r e =
    let h = height-Give t in
    let low : out_height (out.Give t) ≤ 1264 = omega (arith, h) in
    let c = came_sound arms (give t) r low (ap (λ (n : ℕ). came (map seen_arm arms) (record { out = out.Give t; height = n })) h ∙ e) in
    record { next = having c.left c.made; is = c.is; told = c.told; fine = c.low }

first_sound : (arms : List ArmText) (m : Mark) (r : OutReader) → mark_first (map seen_arm arms) m ≡ Some r → After (wanting arms) (fixed m) r
first_sound arms mark.If r e =
    let same : testing (map seen_arm arms) tests.start ≡ r = cc in
    record { next = inside arms form_sound.nothing; is = same; told = ap (λ (z : List Item). text_arms arms ++ fixed mark.If ∷ z) form_sound.nothing-text; fine = form_sound.nothing-fine }
first_sound arms _ r e = absurd (cc)

told_test : (arms : List ArmText) (words : List Item) (i : Item) → text_arms arms ++ fixed mark.If ∷ (words ++ i ∷ []) ≡ (text_arms arms ++ fixed mark.If ∷ words) ++ i ∷ []
told_test arms words i = sym (append_assoc (text_arms arms) (fixed mark.If ∷ words) (i ∷ []))

-- an item inside a test
test_sound : (arms : List ArmText) (g : forms.Ghost) (i : Item) (r : OutReader) → form_sound.Fine g → test_next (map seen_arm arms) (forms.seen g) i ≡ Some r → After (inside arms g) i r
test_sound arms g i r f e =
    let m = map_some (testing (map seen_arm arms)) (tests.step (forms.seen g) i) r e in
    let n = form_sound.step_sound g i m.0 f m.1 in
    record { next = inside arms n.next; is = ap (testing (map seen_arm arms)) n.is ∙ m.2; told = ap (λ (z : List Item). text_arms arms ++ fixed mark.If ∷ z) n.told ∙ told_test arms (form_sound.text g) i; fine = n.fine }

then_sound : (arms : List ArmText) (g : forms.Ghost) (r : OutReader) → form_sound.Fine g → then_next (map seen_arm arms) (forms.seen g) ≡ Some r → After (inside arms g) (fixed mark.Then) r
then_sound arms g r f e =
    let m = map_some (λ (t : Tall). wanted (arm.Then t ∷ map seen_arm arms)) (tests.finished (forms.seen g)) r e in
    let n = form_sound.finished_sound g m.0 f m.1 in
    record { next = wanting (first_arm n.read ∷ arms); is = ap (λ (t : Tall). wanted (arm.Then t ∷ map seen_arm arms)) n.is ∙ m.2; told = ap (λ (z : List Item). text_arms arms ++ fixed mark.If ∷ (z ++ fixed mark.Then ∷ [])) (sym n.told) ∙ told_test arms (form_sound.text g) (fixed mark.Then); fine = refl }

mark_sound : (arms : List ArmText) (g : forms.Ghost) (m : Mark) (r : OutReader) → form_sound.Fine g → test_mark (map seen_arm arms) (forms.seen g) m ≡ Some r → After (inside arms g) (fixed m) r
mark_sound arms g mark.Then r f e = then_sound arms g r f e
mark_sound arms g _ r f e = test_sound arms g _ r f e

told_else : (arms : List ArmText) (f : FormText) (w : OutText) → text (wanting (second_arm f w ∷ arms)) ≡ text (having (first_arm f ∷ arms) w) ++ fixed mark.Else ∷ []
told_else arms f w = simp append_assoc

else_sound : (arms : List ArmText) (w : OutText) (r : OutReader) → else_next (map seen_arm arms) (tall_out (syntax_of_out w)) ≡ Some r → After (having arms w) (fixed mark.Else) r
else_sound [] w r e = absurd (cc)
else_sound (first_arm f ∷ arms) w r e = record { next = wanting (second_arm f w ∷ arms); is = cc; told = told_else arms f w; fine = refl }
else_sound (second_arm f a ∷ arms) w r e = absurd (cc)

after_sound : (arms : List ArmText) (w : OutText) (m : Mark) (r : OutReader) → mark_after (map seen_arm arms) (tall_out (syntax_of_out w)) m ≡ Some r → After (having arms w) (fixed m) r
after_sound arms w mark.Else r e = else_sound arms w r e
after_sound arms w _ r e = absurd (cc)

step_sound : (g : Ghost) (i : Item) (r : OutReader) → Fine g → step (seen g) i ≡ Some r → After g i r
step_sound (wanting arms) (item.Term t) r f e = term_sound arms t r e
step_sound (wanting arms) (item.Fixed m) r f e = first_sound arms m r e
step_sound (wanting arms) _ r f e = absurd (cc)
step_sound (inside arms g) (item.Fixed m) r f e = mark_sound arms g m r f e
step_sound (inside arms g) _ r f e = test_sound arms g _ r f e
step_sound (having arms w) (item.Fixed m) r f e = after_sound arms w m r e
step_sound (having arms w) _ r f e = absurd (cc)

record Ran (g : Ghost) (items : List Item) (r : OutReader) : Type 0 where
  last : Ghost
  is : seen last ≡ r
  told : text last ≡ text g ++ items
  fine : Fine last

run_sound : (items : List Item) (g : Ghost) (r : OutReader) → Fine g → run items (seen g) ≡ Some r → Ran g items r
run_sound [] g r f e = record { last = g; is = cc; told = sym (append-nil (text g)); fine = f }
run_sound (i ∷ items) g r f e =
    option_and_then_some (run items) (step (seen g) i) r e (λ x one more.
    let n = step_sound g i x f one in
    let m = run_sound items n.next r n.fine (ap (run items) n.is ∙ more) in
    record { last = m.last; is = m.is; told = m.told ∙ (ap (λ (z : List Item). z ++ items) n.told ∙ append_assoc (text g) (i ∷ []) items); fine = m.fine })

-- the items are a reading, and o is its syntax tree, which is low
abbrev pub Reads : List Item → OutSyntax → Type 0
Reads items o = (w : OutText) × (items ≡ items_of_out w) × (o ≡ syntax_of_out w) × (out_height o ≤ 1264)

ended_sound : (g : Ghost) (o : OutSyntax) → Fine g → ended (seen g) ≡ Some o → Reads (text g) o
ended_sound (wanting arms) o l e = absurd (cc)
ended_sound (inside arms g) o l e = absurd (cc)
ended_sound (having (a ∷ arms) w) o l e = absurd (cc)
ended_sound (having [] w) o l e = let same : syntax_of_out w ≡ o = cc in (w, refl, sym same, subst (λ (z : OutSyntax). out_height z ≤ 1264) same l)

pub sound : (items : List Item) (o : OutSyntax) → parsed items ≡ Some o → Reads items o
sound items o e =
    option_and_then_some ended (run items start) o e (λ r all end.
    let m = run_sound items (wanting []) r refl all in
    let s = ended_sound m.last o m.fine (ap ended m.is ∙ end) in
    (s.0, sym m.told ∙ s.1, s.2, s.3))
