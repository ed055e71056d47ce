-- The loop over the bytes of a text is the machine's reading of it.
use Rattle.std.proofs.Common.{◌≡◌, ◌≤◌, ◌<◌, ◌+◌, ◌-◌, ℕ, zero, suc, Bool, true, false, cond, List, [], ◌∷◌, Option, Some, None, Result, Err, length, get_or, drop, take, refl, sym, ap, subst, ◌∙◌, arith}
use Rattle.std.specs.Option.{option_and_then}
use Rattle.std.specs.Char.{is_ascii_digit}
use Rattle.std.proofs.lemmas.List.{drop_more}
use Rattle.syn_value.specs.declared.errors.ValueError.{ValueError}
use Rattle.syn_value.specs.declared.errors.ValueError.TheVariants as error
use Rattle.syn_value.specs.declared.reader.Reader.{Reader}
use Rattle.syn_value.specs.inner.Machine.{Leads, Stands, State, flush, flushed, read, read_all, state_at, step}

-- one digit more
more_digits : (bytes : List ℕ) (at end : ℕ) → at < end → end ≤ length bytes → take (end - at) (drop at bytes) ≡ get_or bytes at 0 ∷ take (end - (at + 1)) (drop (at + 1) bytes)
more_digits bytes at end lt le =
    let n : end - at ≡ suc (end - (at + 1)) = omega arith in
    ap (λ (k : ℕ). take k (drop at bytes)) n ∙ ap (take (suc (end - (at + 1)))) (drop_more bytes at 0 (omega arith))

digit_then : (b : Bool) (x y : Option State) → b ≡ true → cond b x y ≡ x
digit_then true x y e = refl
digit_then false x y e = absurd (cc)

pub digit_step : (r : Reader) (bytes : List ℕ) (at end : ℕ) → is_ascii_digit (get_or bytes at 0) ≡ true → at < end → end ≤ length bytes → Some (state_at r bytes at end) ≡ step (get_or bytes at 0) (state_at r bytes (at + 1) end)
digit_step r bytes at end digit lt le =
    ap (λ (ds : List ℕ). Some (record { reader = r; digits = ds })) (more_digits bytes at end lt le) ∙ sym (digit_then (is_ascii_digit (get_or bytes at 0)) _ _ digit)

-- what stops the reading of an end of the text stops that of the text
pub none_before : (bytes : List ℕ) (at : ℕ) → read (drop at bytes) ≡ None → read bytes ≡ None
none_before bytes zero e = e
none_before [] (suc at) e = e
none_before (b ∷ bs) (suc at) e = ap (option_and_then (step b)) (none_before bs at e)

pub fed_err : (e : ValueError) (r s : Reader) (bytes : List ℕ) (at end i : ℕ) → at ≡ i + 1 → at ≤ length bytes → Some (state_at r bytes at end) ≡ read (drop at bytes) → Stands (Err e) s bytes i (step (get_or bytes i 0) (state_at r bytes (i + 1) end)) → Leads {A = Unit {0}} (Err e) s (read_all bytes)
fed_err error.BadValue r s bytes at end i next le so_far stop =
    let kept : Some (state_at r bytes (i + 1) end) ≡ read (drop (i + 1) bytes) = subst (λ (k : ℕ). Some (state_at r bytes k end) ≡ read (drop k bytes)) next so_far in
    let here : read (drop i bytes) ≡ option_and_then (step (get_or bytes i 0)) (read (drop (i + 1) bytes)) = ap read (drop_more bytes i 0 (omega arith)) in
    let none : read (drop i bytes) ≡ None = here ∙ (ap (option_and_then (step (get_or bytes i 0))) (sym kept) ∙ sym stop) in
    sym (ap (option_and_then flushed) (none_before bytes i none))
fed_err error.NoMemory r s bytes at end i next le so_far stop = tt

pub fed_ok : (r s : Reader) (bytes : List ℕ) (at end i e : ℕ) → at ≡ i + 1 → at ≤ length bytes → Some (state_at r bytes at end) ≡ read (drop at bytes) → Some (state_at s bytes i e) ≡ step (get_or bytes i 0) (state_at r bytes (i + 1) end) → Some (state_at s bytes i e) ≡ read (drop i bytes)
fed_ok r s bytes at end i e next le so_far led =
    let kept : Some (state_at r bytes (i + 1) end) ≡ read (drop (i + 1) bytes) = subst (λ (k : ℕ). Some (state_at r bytes k end) ≡ read (drop k bytes)) next so_far in
    let here : read (drop i bytes) ≡ option_and_then (step (get_or bytes i 0)) (read (drop (i + 1) bytes)) = ap read (drop_more bytes i 0 (omega arith)) in
    led ∙ (ap (option_and_then (step (get_or bytes i 0))) kept ∙ sym here)

pub fed_end : (result : Result (Unit {0}) ValueError) (r s : Reader) (bytes : List ℕ) (at end : ℕ) → at ≤ 0 → Some (state_at r bytes at end) ≡ read (drop at bytes) → Leads result s (flush (take end bytes) r) → Leads result s (read_all bytes)
fed_end result r s bytes at end low so_far led =
    let first : at ≡ 0 = omega arith in
    let whole : end - 0 ≡ end = omega arith in
    let kept : Some (state_at r bytes 0 end) ≡ read bytes = subst (λ (k : ℕ). Some (state_at r bytes k end) ≡ read (drop k bytes)) first so_far in
    subst (Leads result s) (ap (λ (k : ℕ). flush (take k bytes) r) (sym whole) ∙ ap (option_and_then flushed) kept) led
