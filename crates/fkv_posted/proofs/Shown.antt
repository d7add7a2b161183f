-- No call fails while bytes are shown, as a store is opened.
use Rattle.std.proofs.Common.{◌≡◌, ℕ, zero, suc, List, [], Bool, true, refl, ap, ◌∙◌}
use Rattle.std.proofs.lemmas.Bool.{false≢true}
use Rattle.std.specs.Prelude.{Option, Some, None, option_map}
use Rattle.std.specs.Borrow.{Bor}
use Rattle.fkv_disk.specs.Kinds.{Foretold, Kind, Syncing, after_kind, after_reads}
use Rattle.fkv_posted.specs.Posting.{shown_foretold, stays_shown}

-- reads change nothing of what is foretold
after_all : (n : ℕ) (bytes : Bor (List ℕ)) → after_reads n (shown_foretold (Some bytes) 0) ≡ shown_foretold (Some bytes) 0
after_all zero bytes = refl
after_all (suc n) bytes = after_all n bytes

-- whether something holds, by what is foretold of no further call
abbrev holds_now : (List Kind → Foretold) → Bool
holds_now says = (says []).holds

behind_sync : (n : ℕ) (synced : Bool) (shown : Option (Bor (List ℕ))) (bytes : List ℕ) → option_map (λ (b : Bor (List ℕ)). b.now) shown ≡ Some bytes
    → holds_now (after_reads n (after_kind (Syncing synced) (shown_foretold shown 0))) ≡ true
behind_sync n synced None bytes is = cc
behind_sync n synced (Some b) bytes is = ap holds_now (after_all n b)

none_failed : (shown : Option (Bor (List ℕ))) (failures : ℕ) → stays_shown shown failures [] ≡ true → failures ≡ 0
none_failed (Some bytes) zero is = refl
none_failed (Some bytes) (suc n) is = absurd (false≢true is)
none_failed None failures is = absurd (false≢true is)

-- A sync was made of a medium whose bytes are shown, and then reads. None has failed.
pub never_failed : (n : ℕ) (synced : Bool) (shown shown' : Option (Bor (List ℕ))) (failures failures' : ℕ) (bytes : List ℕ) → option_map (λ (b : Bor (List ℕ)). b.now) shown ≡ Some bytes → failures ≡ 0
    → shown_foretold shown' failures' ≡ after_reads n (after_kind (Syncing synced) (shown_foretold shown failures)) → failures' ≡ 0
never_failed n synced shown shown' failures failures' bytes is none same =
    none_failed shown' failures'
    (ap holds_now same
    ∙ (ap (λ (f : ℕ). holds_now (after_reads n (after_kind (Syncing synced) (shown_foretold shown f)))) none ∙ behind_sync n synced shown bytes is))
