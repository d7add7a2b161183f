-- What a fuse around a device in memory foretells behind calls that it has met, and the image of a crash then.
use Rattle.std.proofs.Common.{◌≡◌, ◌∙◌, ℕ, zero, suc, List, [], ◌∷◌, length, take, drop, Bool, true, false, not, refl, sym, ap, subst, arith}
use Rattle.std.specs.Prelude.{◌++◌, nat_lt}
use Rattle.std.proofs.lemmas.Bool.Decides.{nat_tests}
use Rattle.std.proofs.lemmas.List.{append-nil}
use Rattle.fkv_disk.specs.Bytes.{listed}
use Rattle.fkv_disk.specs.Calls.{AllDone, Call, Write, Sync, is_untouched, reads_as, torn_image}
use Rattle.fkv_disk.specs.Done.{calls_of}
use Rattle.fkv_disk.specs.Fuse.{fuse_foretells, passed_on, with_refused}
use Rattle.fkv_disk.specs.Fuses.{fuse_device, fuse_state}
use Rattle.fkv_disk.specs.Kinds.{Foretold, Kind, Reading, Writing, Syncing, after_kind, noted}
use Rattle.fkv_disk.specs.Memory.{disk_bytes, disk_calls, disk_opening}
use Rattle.fkv_disk.specs.declared.fuses.Fuse.{Fuse}
use Rattle.fkv_disk.specs.declared.fuses.FuseState.{FuseState}
use Rattle.fkv_disk.specs.declared.fuses.FuseState.TheVariants.{Sound, Armed, Blown, BlownAt}
use Rattle.fkv_disk.specs.declared.memory.DoneCall.{DoneCall}
use Rattle.fkv_disk.specs.declared.memory.DoneCall.TheVariants.{Wrote, Synced}
use Rattle.fkv_disk.specs.declared.memory.MemDisk.{MemDisk}
use Rattle.law_calls.specs.Torn.{IsTornAt, IsTornBehind, IsTornByFuse, IsTornWithin}
use Rattle.law_calls.proofs.Torn.{torn_behind, torn_within}

-- what is foretold, with a write that failed in front of the calls
abbrev with_cut : ℕ → ℕ → Foretold → Foretold
with_cut at n its = record { holds = its.holds; opening = its.opening; calls = Write at (listed n (λ k. 0)) false ∷ its.calls }

abbrev whole : Foretold → Foretold
whole its = record { holds = its.holds; opening = its.opening; calls = its.calls }

-- what is foretold where these calls were left, of which the first came to the crash
abbrev cut_at : Foretold → List Kind → Foretold
cut_at its (Writing at bytes done ∷ rest) = with_cut at (length bytes) its
cut_at its rest = whole its

-- one that has blown notes no call
pub still : (met : List Kind) (says : List Kind → Foretold) → fuse_foretells Blown says met ≡ whole (says [])
still [] says = refl
still (Reading ∷ later) says = still later says
still (Writing at bytes done ∷ later) says = still later says
still (Syncing done ∷ later) says = still later says

pub still_at : (met : List Kind) (at n : ℕ) (says : List Kind → Foretold) → fuse_foretells (BlownAt at n) says met ≡ with_cut at n (says [])
still_at [] at n says = refl
still_at (Reading ∷ later) at n says = still_at later at n says
still_at (Writing place bytes done ∷ later) at n says = still_at later at n says
still_at (Syncing done ∷ later) at n says = still_at later at n says

-- one that isn't armed lets each pass
pub each_passes : (met : List Kind) (says : List Kind → Foretold) → fuse_foretells Sound says met ≡ whole (says met)
each_passes [] says = refl
each_passes (Reading ∷ later) says = each_passes later (after_kind Reading says)
each_passes (Writing at bytes done ∷ later) says = each_passes later (after_kind (Writing at bytes done) says)
each_passes (Syncing done ∷ later) says = each_passes later (after_kind (Syncing done) says)

pub more_left : (left : ℕ) → nat_lt 0 (suc left) ≡ true
more_left left = grind (arith, nat_tests)

-- and an armed one so many
some_pass : (left : ℕ) (met : List Kind) (says : List Kind → Foretold) → fuse_foretells (Armed left) says met ≡ cut_at (says (take left met)) (drop left met)
some_pass zero [] says = refl
some_pass zero (Reading ∷ later) says = still later says
some_pass zero (Writing at bytes done ∷ later) says = still_at later at (length bytes) says
some_pass zero (Syncing done ∷ later) says = still later says
some_pass (suc left) [] says = refl
some_pass (suc left) (Reading ∷ later) says = ap (λ (b : Bool). fuse_foretells (Armed left) (passed_on b Reading says) later) (more_left left) ∙ some_pass left later (after_kind Reading says)
some_pass (suc left) (Writing at bytes done ∷ later) says = ap (λ (b : Bool). fuse_foretells (Armed left) (passed_on b (Writing at bytes done) says) later) (more_left left) ∙ some_pass left later (after_kind (Writing at bytes done) says)
some_pass (suc left) (Syncing done ∷ later) says = ap (λ (b : Bool). fuse_foretells (Armed left) (passed_on b (Syncing done) says) later) (more_left left) ∙ some_pass left later (after_kind (Syncing done) says)

-- what a device in memory foretells
abbrev pub in_memory : List ℕ → List Call → List Kind → Foretold
in_memory opening calls later = record { holds = false; opening = opening; calls = noted later calls }

-- the image of a crash, by what is foretold of no further call
abbrev crash_image : Foretold → ℕ → List ℕ
crash_image its torn = torn_image its.opening its.calls torn

module _ (opening : List ℕ) (before : List Call) (all : AllDone before) (torn : ℕ) where
  abbrev bytes : List ℕ
  bytes = reads_as opening before

  abbrev unsynced : ℕ → Bool
  unsynced i = not (is_untouched before i)

  cut_torn : (passed rest : List Kind) → IsTornAt bytes unsynced passed rest torn (crash_image (cut_at (in_memory opening before passed) rest) torn)
  cut_torn passed [] = torn_behind opening before all passed torn
  cut_torn passed (Reading ∷ rest) = torn_behind opening before all passed torn
  cut_torn passed (Writing at its done ∷ rest) = torn_within opening before all passed torn at (length its)
  cut_torn passed (Syncing done ∷ rest) = torn_behind opening before all passed torn

  pub fuse_torn : (state : FuseState) (met : List Kind) → IsTornByFuse state bytes unsynced met torn (crash_image (fuse_foretells state (in_memory opening before) met) torn)
  fuse_torn Sound met = subst (λ (its : Foretold). IsTornBehind bytes unsynced met torn (crash_image its torn)) (sym (each_passes met (in_memory opening before))) (torn_behind opening before all met torn)
  fuse_torn (Armed left) met =
      subst (λ (its : Foretold). IsTornAt bytes unsynced (take left met) (drop left met) torn (crash_image its torn)) (sym (some_pass left met (in_memory opening before))) (cut_torn (take left met) (drop left met))
  fuse_torn Blown met = subst (λ (its : Foretold). IsTornBehind bytes unsynced [] torn (crash_image its torn)) (sym (still met (in_memory opening before))) (torn_behind opening before all [] torn)
  fuse_torn (BlownAt at n) met = subst (λ (its : Foretold). IsTornWithin bytes unsynced [] at n torn (crash_image its torn)) (sym (still_at met at n (in_memory opening before))) (torn_within opening before all [] torn at n)

-- a device in memory notes only calls that came through
done_on : (calls : List Call) (call : Call) → AllDone calls → AllDone (call ∷ []) → AllDone (calls ++ call ∷ [])
done_on [] call all last = last
done_on (Write at its true ∷ before) call all last = done_on before call all last
done_on (Write at its false ∷ before) call all last = absurd all
done_on (Sync true ∷ before) call all last = done_on before call all last
done_on (Sync false ∷ before) call all last = absurd all

pub all_done : (done : List DoneCall) → AllDone (calls_of done)
all_done [] = tt
all_done (Wrote at its ∷ later) = done_on (calls_of later) (Write at its.items true) (all_done later) tt
all_done (Synced ∷ later) = done_on (calls_of later) (Sync true) (all_done later) tt

-- The image that a crash takes of a fuse around a device in memory is the rule's, of the calls that it has met since it was another one.
pub torn_since : (was is : Fuse MemDisk) (met : List Kind) (torn : ℕ)
    → fuse_foretells is.state (in_memory is.device.opening.items (calls_of is.device.done.items)) [] ≡ fuse_foretells was.state (in_memory was.device.opening.items (calls_of was.device.done.items)) (met ++ [])
    → IsTornByFuse (fuse_state was) (disk_bytes (fuse_device was)) (λ i. not (is_untouched (disk_calls (fuse_device was)) i)) met torn
    (torn_image (disk_opening (fuse_device is)) (with_refused (fuse_state is) (disk_calls (fuse_device is))) torn)
torn_since was is met torn foretold =
    let disk = was.device in
    let calls = calls_of disk.done.items in
    let its = foretold ∙ ap (fuse_foretells was.state (in_memory disk.opening.items calls)) (append-nil met) in
    subst (λ (read : List ℕ). IsTornByFuse was.state read (λ i. not (is_untouched calls i)) met torn (torn_image is.device.opening.items (with_refused is.state (calls_of is.device.done.items)) torn)) (sym disk.is_replayed)
    (subst (λ (f : Foretold). IsTornByFuse was.state (reads_as disk.opening.items calls) (λ i. not (is_untouched calls i)) met torn (crash_image f torn)) (sym its)
    (fuse_torn disk.opening.items calls (all_done disk.done.items) torn was.state met))
