-- An entry is what is read where one is spelled.
use Rattle.std.proofs.Common.{◌≡◌, ℕ, ◌<◌, ◌^◌, ◌%◌, ◌/◌, List, [], ◌∷◌, arith, refl, Bool, true, false}
use Rattle.std.specs.Prelude.{nat_lt, ◌&&◌, if◌then◌else◌, Some}
use Rattle.std.proofs.lemmas.Bool.Decides.{nat_tests}
use Rattle.fkv_words.specs.declared.entries.Entry.{Entry}
use Rattle.fkv_words.specs.Layout.{entry_word}
use Rattle.fkv_checkpoint.specs.Triples.{CopiedEntry}
use Rattle.fkv_checkpoint.specs.Copying.{slot_copied}
use Rattle.fkv_checkpoint.proofs.copying.slot_copied.Goals as goal

there : (bucket word addr tag : ℕ) → word % 2 ^ 48 ≡ addr → word / 2 ^ 48 ≡ tag → 0 < addr → tag < 2 ^ 15 → ◌≡◌ {A = List CopiedEntry} (record { home = record { bucket = bucket; tag = tag }; addr = addr } ∷ []) (slot_copied bucket word)
unfolding slot_copied
there bucket word addr tag low high some fits =
    let b : nat_lt 0 addr ≡ true = grind (arith, nat_tests) in
    let d : nat_lt tag (2 ^ 15) ≡ true = grind (arith, nat_tests) in
    rw (low, high, b, d) refl

none : (bucket word : ℕ) → (0 < word % 2 ^ 48 → word / 2 ^ 48 < 2 ^ 15 → ⊥) → ◌≡◌ {A = List CopiedEntry} [] (slot_copied bucket word)
unfolding slot_copied
none bucket word out = cases (nat_lt 0 (word % 2 ^ 48)) (nat_lt (word / 2 ^ 48) (2 ^ 15)) refl refl
  where
    cases : (p q : Bool) → nat_lt 0 (word % 2 ^ 48) ≡ p → nat_lt (word / 2 ^ 48) (2 ^ 15) ≡ q
        → ◌≡◌ {A = List CopiedEntry} [] (if p && q then record { home = record { bucket = bucket; tag = word / 2 ^ 48 }; addr = word % 2 ^ 48 } ∷ [] else [])
    cases true true e d = absurd (out (grind (arith, nat_tests, e)) (grind (arith, nat_tests, d)))
    cases true false e d = refl
    cases false q e d = refl

pub returns-in_err-entry : goal.returns-in_err-entry
returns-in_err-entry c = rw c.from_residual.ensures (none c.args.bucket c.args.word out)
  where
    out : 0 < c.args.word % 2 ^ 48 → c.args.word / 2 ^ 48 < 2 ^ 15 → ⊥
    out some fits =
        let entry : Entry = record { addr = record { 0 = c.args.word % 2 ^ 48 }; tag = c.args.word / 2 ^ 48; some_addr = some; addr_fits = omega arith; tag_fits = fits } in
        let e : c.unpack.result ≡ Some entry = (c.unpack.ensures entry).1 (omega arith) in
        let n = c.in_err-entry.was in
        cc

pub returns : goal.returns
returns c =
    let entry = c.in_ok-entry.entry in
    let its : entry_word entry ≡ c.args.word = (c.unpack.ensures entry).0 c.in_ok-entry.was in
    there c.args.bucket c.args.word entry.addr.0 entry.tag (omega (arith, its, entry.some_addr, entry.addr_fits)) (omega (arith, its, entry.addr_fits)) entry.some_addr entry.tag_fits
