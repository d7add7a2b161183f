-- The bytes in hand are those of the records' words.
use Rattle.std.proofs.Common.{◌≡◌, ℕ, suc, ◌+◌, ◌-◌, ◌<◌, ◌≤◌, ◌^◌, Bool, true, false, List, [], ◌∷◌, ◌++◌, refl, sym, ap, ◌∙◌, arith}
use Rattle.std.specs.Prelude.{nat_lt, ◌&&◌, if◌then◌else◌}
use Rattle.std.specs.Int.{w64, to_le_bytes}
use Rattle.std.proofs.lemmas.Bool.Decides.{nat_tests}
use Rattle.std.proofs.lemmas.Grind.{flat_map-append}
use Rattle.std.proofs.lemmas.List.{append-nil, append_assoc}
use Rattle.std.proofs.lemmas.List.Concat.{flat_map-cons}
use Rattle.fkv_record.specs.Numbers.{spelled}
use Rattle.fkv_plane.specs.declared.places.RecordWord.{RecordWord}
use Rattle.fkv_plane.specs.declared.places.RecordWord.TheVariants as rec
use Rattle.fkv_flush.specs.declared.flushing.Part.{Part}
use Rattle.fkv_flush.specs.declared.flushing.Flushing.TheVariants.{AtRest, LoadsFlushed, LoadsEnd, LoadsWord, WritesPart, Syncs, RaisesFlushed}
use Rattle.fkv_flush.specs.Flushing.{part_begun, flush_next, bytes_next, flush_done, bytes_done}
use Rattle.fkv_flush.specs.InHand.{words_from, HasLoaded, LoadsRecords, LoadsNextPart}

another : (ws ys bytes : List ℕ) (x : ℕ) → bytes ≡ spelled (ws ++ ys) → bytes ++ to_le_bytes w64 x ≡ spelled (ws ++ (ys ++ x ∷ []))
another ws ys bytes x h =
    let last : spelled (x ∷ []) ≡ to_le_bytes w64 x = flat_map-cons (to_le_bytes w64) x [] ∙ append-nil (to_le_bytes w64 x) in
    ap (λ bs. bs ++ to_le_bytes w64 x) h
    ∙ ap (λ bs. spelled (ws ++ ys) ++ bs) (sym last)
    ∙ sym (flat_map-append (to_le_bytes w64) (ws ++ ys) (x ∷ []))
    ∙ ap spelled (append_assoc ws ys (x ∷ []))

end_where : (page : ℕ) (word : ℕ → RecordWord → ℕ) (flushed end : ℕ) (bytes : List ℕ) (more : Bool) → bytes ≡ []
    → HasLoaded word (if more then part_begun page flushed end else AtRest) bytes
end_where page word flushed end bytes true h =
    let none : flushed - flushed ≡ 0 = omega arith in
    h ∙ sym (ap (λ n. spelled (words_from word flushed n ++ [])) none)
end_where page word flushed end bytes false h = tt

whole_record : (word : ℕ → RecordWord → ℕ) (from addr : ℕ) (bytes : List ℕ) → from ≤ addr
    → bytes ≡ spelled (words_from word from (addr - from) ++ (word addr rec.Header ∷ word addr rec.Key ∷ word addr rec.Value ∷ []))
    → bytes ≡ spelled (words_from word from ((addr + 1) - from))
whole_record word from addr bytes after h =
    let next : (addr + 1) - from ≡ suc (addr - from) = omega (arith, after) in
    let here : from + (addr - from) ≡ addr = omega (arith, after) in
    h
    ∙ ap (λ at. spelled (words_from word from (addr - from) ++ (word at rec.Header ∷ word at rec.Key ∷ word at rec.Value ∷ []))) (sym here)
    ∙ ap (λ n. spelled (words_from word from n)) (sym next)

record_where : (word : ℕ → RecordWord → ℕ) (part : Part) (addr : ℕ) (bytes : List ℕ) (more : Bool) → nat_lt (addr + 1) part.stop ≡ more → addr < part.stop
    → bytes ≡ spelled (words_from word part.from ((addr + 1) - part.from))
    → HasLoaded word (if more then LoadsWord part (addr + 1) rec.Header else WritesPart part) bytes
record_where word part addr bytes true e before h = h ∙ ap spelled (sym (append-nil (words_from word part.from ((addr + 1) - part.from))))
record_where word part addr bytes false e before h =
    let stop : addr + 1 ≡ part.stop = grind (arith, nat_tests, e, before) in
    h ∙ ap (λ n. spelled (words_from word part.from (n - part.from))) stop

pub in_hand : LoadsRecords
unfolding flush_next bytes_next
in_hand page word AtRest bytes reply r h a = tt
in_hand page word LoadsFlushed bytes reply r h a = h
in_hand page word (LoadsEnd flushed) bytes reply r h a = end_where page word flushed reply bytes (nat_lt flushed reply && nat_lt reply (2 ^ 48)) h
in_hand page word (LoadsWord part addr rec.Header) bytes reply r h a = rw a (another (words_from word part.from (addr - part.from)) [] bytes (word addr rec.Header) h)
in_hand page word (LoadsWord part addr rec.Key) bytes reply r h a = rw a (another (words_from word part.from (addr - part.from)) (word addr rec.Header ∷ []) bytes (word addr rec.Key) h)
in_hand page word (LoadsWord part addr rec.Value) bytes reply r h a =
    record_where word part addr (bytes ++ to_le_bytes w64 reply) (nat_lt (addr + 1) part.stop) refl r.before
    (whole_record word part.from addr (bytes ++ to_le_bytes w64 reply) r.after
    (rw a (another (words_from word part.from (addr - part.from)) (word addr rec.Header ∷ word addr rec.Key ∷ []) bytes (word addr rec.Value) h)))
in_hand page word (WritesPart part) bytes reply r h a = h
in_hand page word (Syncs end) bytes reply r h a = tt
in_hand page word (RaisesFlushed end) bytes reply r h a = tt

part_where : (page : ℕ) (word : ℕ → RecordWord → ℕ) (stop end : ℕ) (more : Bool) → HasLoaded word (if more then part_begun page stop end else Syncs end) []
part_where page word stop end true =
    let none : stop - stop ≡ 0 = omega arith in
    sym (ap (λ n. spelled (words_from word stop n ++ [])) none)
part_where page word stop end false = tt

pub next_part : LoadsNextPart
unfolding flush_done bytes_done
next_part page word (WritesPart part) bytes true h = part_where page word part.stop part.end (nat_lt part.stop part.end)
next_part page word (WritesPart part) bytes false h = tt
next_part page word (Syncs end) bytes true h = tt
next_part page word (Syncs end) bytes false h = tt
next_part page word AtRest bytes done h = tt
next_part page word LoadsFlushed bytes done h = h
next_part page word (LoadsEnd flushed) bytes done h = h
next_part page word (LoadsWord part addr this) bytes done h = h
next_part page word (RaisesFlushed end) bytes done h = tt
