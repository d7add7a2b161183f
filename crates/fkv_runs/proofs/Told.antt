-- What is written of a text so far.
use Rattle.std.proofs.Common.{◌≡◌, ℕ, ◌+◌, ◌-◌, ◌≤◌, List, [], ◌++◌, length, take, drop, Option, Some, None, Result, Ok, Err, OnErr, refl, sym, ap, ◌∙◌, subst, inl, inr, arith, append_assoc, append-nil}
use Rattle.std.specs.Io.KnownBytes.{Appends, Keeps}
use Rattle.std.proofs.lemmas.List.{length-drop, take-append-drop, take_all}
use Rattle.std.proofs.Math.Seq.{take-add}
use Rattle.fkv_texts.proofs.Shown.{appends_both, appends_nothing}
use Rattle.fkv_playing.specs.InTurn.{Writes}
use Rattle.fkv_runs.specs.Beginnings.{BreaksOff}

-- where nothing more is written, what was written stays
pub appends_kept : (a b c : Option (List ℕ)) (x : List ℕ) → Appends a b x → Keeps b c → Appends a c x
appends_kept None b c x h k = tt
appends_kept (Some a) None c x h k = absurd h
appends_kept (Some a) (Some b) None x h k = absurd k
appends_kept (Some a) (Some b) (Some c) x h k = k ∙ h

-- the first bytes of a text are a beginning of it
pub first_written : (text : List ℕ) (at : ℕ) (a b : Option (List ℕ)) → Appends a b (take at text) → BreaksOff (λ its. its ≡ text) a b
first_written text at a b h = (take at text, inr (drop at text, take-append-drop at text), h)

pub first_kept : (text : List ℕ) (at : ℕ) (a b c : Option (List ℕ)) → Appends a b (take at text) → Keeps b c → BreaksOff (λ its. its ≡ text) a c
first_kept text at a b c h k = first_written text at a c (appends_kept a b c (take at text) h k)

-- no byte more
nothing_kept : (b c : Option (List ℕ)) (count : ℕ) (buf : List ℕ) → count ≡ 0 → Appends b c (take count buf) → Keeps b c
nothing_kept None c count buf e h = tt
nothing_kept (Some b) None count buf e h = absurd h
nothing_kept (Some b) (Some c) count buf e h = h ∙ ap (λ n. b ++ take n buf) e ∙ append-nil b

pub first_not_more : (text : List ℕ) (at count : ℕ) (buf : List ℕ) (a b c : Option (List ℕ)) → Appends a b (take at text) → count ≡ 0 → Appends b c (take count buf) → BreaksOff (λ its. its ≡ text) a c
first_not_more text at count buf a b c h e k = first_kept text at a b c h (nothing_kept b c count buf e k)

-- some bytes more
pub more_written : (text : List ℕ) (at count : ℕ) (a b c : Option (List ℕ)) → at ≤ length text → count ≤ length (take (length text - at) (drop at text)) → Appends a b (take at text)
    → Appends b c (take count (take (length text - at) (drop at text))) → (at + count ≤ length text) × Appends a c (take (at + count) text)
more_written text at count a b c within bound h k =
    let left : length (drop at text) ≡ length text - at = length-drop at text in
    let all : take (length text - at) (drop at text) ≡ drop at text = take_all (length text - at) (drop at text) (omega arith) in
    let same : length (take (length text - at) (drop at text)) ≡ length (drop at text) = ap length all in (
      omega arith,
      subst (λ (xs : List ℕ). Appends a c xs) (sym (take-add at count text))
          (appends_both a b c (take at text) (take count (drop at text)) h (subst (λ (xs : List ℕ). Appends b c (take count xs)) all k)),
    )

-- what is written into memory, and then from there
pub written_on : (Its : List ℕ → Type 0) (text : List ℕ) (a b : Option (List ℕ)) → Writes Its (Some []) (Some text) → Appends a b text → Writes Its a b
written_on Its text a b h k = (text, subst Its (sym h.2) h.1, k)

-- where a text breaks off, so do all that it is one of
pub text_breaks : (Its : List ℕ → Type 0) (text : List ℕ) (a b : Option (List ℕ)) → Its text → BreaksOff (λ its. its ≡ text) a b → BreaksOff Its a b
text_breaks Its text a b its (said, inl nothing, h) = (said, inl nothing, h)
text_breaks Its text a b its (said, inr (rest, same), h) = (said, inr (rest, subst Its (sym same) its), h)

-- nothing was written
pub breaks_at_once : (Its : List ℕ → Type 0) (a : Option (List ℕ)) → BreaksOff Its a a
breaks_at_once Its a = ([], inl refl, appends_nothing a)

-- what breaks off in one kind of text does so in another
pub breaks_weaker : (Its Other : List ℕ → Type 0) (a b : Option (List ℕ)) → ((text : List ℕ) → Its text → Other text) → BreaksOff Its a b → BreaksOff Other a b
breaks_weaker Its Other a b weaker (said, inl nothing, h) = (said, inl nothing, h)
breaks_weaker Its Other a b weaker (said, inr (rest, its), h) = (said, inr (rest, weaker (said ++ rest) its), h)

-- behind a text that is written whole another one breaks off
pub breaks_behind : (Its Other : List ℕ → Type 0) (first : List ℕ) (a b c : Option (List ℕ)) → Appends a b first → Other first → ((text : List ℕ) → Its text → Other (first ++ text)) → BreaksOff Its b c → BreaksOff Other a c
breaks_behind Its Other first a b c h own weaker (said, inl nothing, k) =
    (first ++ said, inr ([], subst Other (sym (append-nil (first ++ said) ∙ ap (λ (xs : List ℕ). first ++ xs) nothing ∙ append-nil first)) own), appends_both a b c first said h k)
breaks_behind Its Other first a b c h own weaker (said, inr (rest, its), k) =
    (first ++ said, inr (rest, subst Other (sym (append_assoc first said rest)) (weaker (said ++ rest) its)), appends_both a b c first said h k)

-- what holds anyway holds behind an error
pub on_err : {A E X : Type 0} (result : Result A E) → X → OnErr result X
on_err (Ok value) x = tt
on_err (Err error) x = x

-- what was written into memory breaks off where its bytes do
pub told_breaks : (Its : List ℕ → Type 0) (none said shown : List ℕ) (a b : Option (List ℕ)) → none ≡ [] → shown ≡ said → Writes Its (Some none) (Some said) → BreaksOff (λ its. its ≡ shown) a b → BreaksOff Its a b
told_breaks Its none said shown a b nothing same h k =
    text_breaks Its shown a b (subst Its (sym (same ∙ h.2 ∙ ap (λ (xs : List ℕ). xs ++ h.0) nothing)) h.1) k

pub told_err : {A E : Type 0} (Its : List ℕ → Type 0) (none said shown : List ℕ) (a b : Option (List ℕ)) (result : Result A E) → none ≡ [] → shown ≡ said → Writes Its (Some none) (Some said)
    → OnErr result (BreaksOff (λ its. its ≡ shown) a b) → OnErr result (BreaksOff Its a b)
told_err Its none said shown a b (Ok value) nothing same h k = tt
told_err Its none said shown a b (Err error) nothing same h k = told_breaks Its none said shown a b nothing same h k
