-- One sync and then reads are told as such.
use Rattle.std.proofs.Common.{◌≡◌, ℕ, zero, suc, List, [], Bool, true, refl, ◌∙◌, ap}
use Rattle.fkv_disk.specs.Kinds.{Foretold, Kind, Syncing, after_kind, after_reads}
use Rattle.fkv_opening_tests.specs.Watched.{is_quiet_in_the_end, stand_foretold}
use Rattle.fkv_opening_tests.specs.declared.watched.Stand.{Stand}
use Rattle.fkv_opening_tests.specs.declared.watched.Stand.TheVariants.{NoCall, OneSyncThenReads, Others}

-- whether something holds, by what is foretold of no further call
abbrev holds_now : (List Kind → Foretold) → Bool
holds_now says = (says []).holds

reads_told : (n : ℕ) → holds_now (after_reads n (stand_foretold OneSyncThenReads)) ≡ true
reads_told zero = refl
reads_told (suc n) = reads_told n

stands_so : (stand : Stand) → is_quiet_in_the_end stand [] ≡ true → stand ≡ OneSyncThenReads
stands_so NoCall is = absurd (let no : ⊥ = cc in no)
stands_so OneSyncThenReads is = refl
stands_so Others is = absurd (let no : ⊥ = cc in no)

-- what the contract of recovery tells of a device that stood at no call
pub quiet_told : (old new : Stand) (n : ℕ) (synced : Bool) → old ≡ NoCall → stand_foretold new ≡ after_reads n (after_kind (Syncing synced) (stand_foretold old)) → new ≡ OneSyncThenReads
quiet_told old new n synced at_first told =
    stands_so new (ap holds_now told ∙ ap (λ (stand : Stand). holds_now (after_reads n (after_kind (Syncing synced) (stand_foretold stand)))) at_first ∙ reads_told n)
