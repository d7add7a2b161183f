-- An entry is what is read where one is spelled.
use Rattle.std.proofs.Common.{◌≡◌, ℕ, ◌<◌, ◌^◌, ◌%◌, ◌/◌, arith, refl, Bool, true, false}
use Rattle.std.specs.Prelude.{◌==◌, ◌&&◌, nat_lt, if◌then◌else◌, Some}
use Rattle.std.proofs.lemmas.Bool.Decides.{nat_tests}
use Rattle.fkv_words.specs.declared.entries.Entry.{Entry}
use Rattle.fkv_words.specs.Layout.{entry_word}
use Rattle.fkv_index.specs.declared.slot_words.SlotWord.TheVariants.{Tagged, Spoiled}
use Rattle.fkv_index.specs.Slots.{slot_word}
use Rattle.fkv_index.proofs.slot_words.slot_word.Goals as goal

tagged : (word tag : ℕ) → 0 < word % 2 ^ 48 → word / 2 ^ 48 ≡ tag → tag < 2 ^ 15 → Tagged tag ≡ slot_word word
unfolding slot_word
tagged word tag some its fits =
    let a : (word == 0) ≡ false = grind (arith, nat_tests) in
    let b : nat_lt 0 (word % 2 ^ 48) ≡ true = grind (arith, nat_tests) in
    let d : nat_lt (word / 2 ^ 48) (2 ^ 15) ≡ true = grind (arith, nat_tests) in
    rw (a, b, d, its) refl

spoiled : (word : ℕ) → (word ≡ 0 → ⊥) → (0 < word % 2 ^ 48 → word / 2 ^ 48 < 2 ^ 15 → ⊥) → Spoiled ≡ slot_word word
unfolding slot_word
spoiled word some none =
    let a : (word == 0) ≡ false = grind (arith, nat_tests) in
    rw a (cases (nat_lt 0 (word % 2 ^ 48)) (nat_lt (word / 2 ^ 48) (2 ^ 15)) refl refl)
  where
    cases : (p q : Bool) → nat_lt 0 (word % 2 ^ 48) ≡ p → nat_lt (word / 2 ^ 48) (2 ^ 15) ≡ q → Spoiled ≡ (if p && q then Tagged (word / 2 ^ 48) else Spoiled)
    cases true true e d = absurd (none (grind (arith, nat_tests, e)) (grind (arith, nat_tests, d)))
    cases true false e d = refl
    cases false q e d = refl

pub returns-then-word-eq0 : goal.returns-then-word-eq0
unfolding slot_word
returns-then-word-eq0 c = rw c.if-word-eq0.true refl

pub returns-in-Some : goal.returns-in-Some
returns-in-Some c =
    let entry = c.in-Some.entry in
    let its : entry_word entry ≡ c.args.word = (c.unpack.ensures entry).0 c.in-Some.is in
    tagged c.args.word entry.tag (omega (arith, its, entry.some_addr, entry.addr_fits)) (omega (arith, its, entry.addr_fits)) entry.tag_fits

pub returns-in-None : goal.returns-in-None
returns-in-None c = spoiled c.args.word c.if-word-eq0.false none
  where
    none : 0 < c.args.word % 2 ^ 48 → c.args.word / 2 ^ 48 < 2 ^ 15 → ⊥
    none some fits =
        let entry : Entry = record { addr = record { 0 = c.args.word % 2 ^ 48 }; tag = c.args.word / 2 ^ 48; some_addr = some; addr_fits = omega arith; tag_fits = fits } in
        let e : c.unpack.result ≡ Some entry = (c.unpack.ensures entry).1 (omega arith) in
        let n = c.in-None.is in
        cc
