-- A life begins over a device that holds a store's image.
use Rattle.std.proofs.Common.{◌≡◌, ◌∙◌, ℕ, zero, suc, List, [], ap, false, replicate, sym, subst}
use Rattle.std.specs.Prelude.{Bool, Some, slice_get}
use Rattle.law_order.specs.Below.fkv_core.Openings.{IsOpeningWorld, beginning}
use Rattle.fkv_disk.specs.Calls.{ReadsAs}
use Rattle.fkv_disk.specs.Device.{IsAfter, LeavesOnly}
use Rattle.fkv_disk.specs.Fuse.{FuseLeaves, armed}
use Rattle.fkv_disk.specs.Fuses.{fuse_device, fuse_state}
use Rattle.fkv_disk.specs.declared.fuses.Fuse.{Fuse}
use Rattle.fkv_disk.specs.declared.fuses.FuseState.{FuseState}
use Rattle.fkv_disk.specs.declared.fuses.FuseState.TheVariants.{Armed, Blown, BlownAt, Sound}
use Rattle.fkv_disk.proofs.Shown.{is_opened}
use Rattle.fkv_epoch.proofs.Shown.{none_some, some_same}
use Rattle.law_order.specs.Below.fkv_opening.Opened.{IsStoreOf}
use Rattle.law_order.specs.Below.fkv_opening.TheOpened.{Opened}
use Rattle.fkv_runs.specs.Below.fkv_playing.Players.{PlayerState}
use Rattle.fkv_runs.specs.Below.fkv_playing.Seats.{SeatState, first_seat}
use Rattle.fkv_runs.specs.Openings.{Holds}
use Rattle.fkv_texts.specs.Polls.{key_of_ticket}
use Rattle.law_order.specs.Below.fkv_world.Runs.{run}
use Rattle.law_order.specs.Below.fkv_world.World.{Now}
use Rattle.law_program.specs.PlayedCalls.EachLine.{IsLifeOver}
use Rattle.law_program.specs.PlayedCalls.Lives.{ArmingGoesOn, CrashesGoOn, LivesBegin}
use Rattle.law_program.specs.PlayedCalls.PlayedCalls.{IsQuietLife}
use Rattle.law_order.specs.Below.law_refine.Results.Results.{NobodyCalls}
use Rattle.law_program.specs.PlayedCalls.Waiting.{SeatsKeepKeys}
use Rattle.law_program.proofs.OfPlayedCalls.NewStores.{PairsAreMap}
use Rattle.law_program.proofs.OfPlayedCalls.Scripts.{opening_idle, opening_quiet, opening_shows}

first_one : (sessions number : ℕ) (seat : SeatState) → slice_get (replicate sessions first_seat) number ≡ Some seat → seat ≡ first_seat
first_one zero number seat there = none_some seat there
first_one (suc sessions) zero seat there = sym (some_same _ _ there)
first_one (suc sessions) (suc number) seat there = first_one sessions number seat there

module _ {D : Type 0} (honest : D → Type 0) (seen : D → List ℕ) (may_leave : D → List ℕ → Type 0) (refuses : D → ℕ → Bool) where
  synced_so : (image : List ℕ) (device : D) → Holds honest seen may_leave refuses image device → IsAfter image [] (seen device) (may_leave device)
  synced_so image device its =
      subst (λ (x : List ℕ). IsAfter x [] (seen device) (may_leave device)) its.reads
      (is_opened (seen device) (may_leave device) (subst (λ (x : List ℕ). LeavesOnly x (may_leave device)) (sym its.reads) its.synced))

  -- no seat keeps a ticket yet
  none_kept : (image : List ℕ) (first : Now) (sessions : ℕ) → SeatsKeepKeys image first [] (replicate sessions first_seat)
  unfolding run
  none_kept image first sessions = record {
    told = λ number seat there ticket. ap (λ (x : SeatState). key_of_ticket x.waiting ticket) (first_one sessions number seat there);
    stand = λ number seat there ticket key kept. let empty : seat ≡ first_seat = first_one sessions number seat there in none_some key (ap (λ (x : SeatState). key_of_ticket x.waiting ticket) (sym empty) ∙ kept);
  }

  over_device : (image : List ℕ) (opened : Opened) (player : PlayerState D) → IsStoreOf image opened → IsOpeningWorld opened player.world.now → IsAfter image [] (seen player.world.device) (may_leave player.world.device)
      → player.seats ≡ replicate opened.shape.sessions first_seat → player.sweeps ≡ false → IsLifeOver seen may_leave image opened player.world.now [] player
  unfolding run
  over_device image opened player store opening device seats off = record {
    quiet = opening_quiet image opened player.world.now store opening;
    device = device;
    rests = opening_idle opened player.world.now opening;
    keeps = subst (SeatsKeepKeys image player.world.now []) (sym seats) (none_kept image player.world.now opened.shape.sessions);
    begins = λ none. off;
  }

  pub lives_begin : LivesBegin seen may_leave (Holds honest seen may_leave refuses)
  lives_begin image opened device history keeps_history player store holds begins =
      over_device image opened player store begins.world
      (subst (λ (x : D). IsAfter image [] (seen x) (may_leave x)) (sym begins.over) (synced_so image device holds))
      (ap (λ (x : PlayerState D). x.seats) begins.same)
      (ap (λ (x : PlayerState D). x.sweeps) begins.same)

  pub crashes_go_on : PairsAreMap → CrashesGoOn seen may_leave (Holds honest seen may_leave refuses)
  crashes_go_on pairs image checks agrees before after text crash = record {
    opened = crash.opened;
    pairs = crash.pairs;
    says = crash.says;
    begins = lives_begin image crash.opened crash.device _ checks after crash.recovered.store crash.reads crash.begins;
    shows = pairs image crash.opened crash.recovered.store crash.pairs crash.recovered.are_pairs ∙ sym (opening_shows image crash.opened after.world.now);
  }

-- ---- a fuse that is armed
-- a crash may leave no more of it
pub armed_leaves : (count : ℕ) (state : FuseState) (leaves : List ℕ → Type 0) (image : List ℕ) → FuseLeaves (armed count state) leaves image → FuseLeaves state leaves image
armed_leaves count Sound leaves image left = left
armed_leaves count (Armed before) leaves image left = left
armed_leaves count Blown leaves image left = left
armed_leaves count (BlownAt at n) leaves image left = left

pub arming_goes_on : {D : Type 0} (seen : D → List ℕ) (may_leave : D → List ℕ → Type 0) → ArmingGoesOn seen may_leave
arming_goes_on {D} seen may_leave count waits bytes o first life before after its over =
    let sweeps : after.sweeps ≡ before.sweeps = ap (λ (x : PlayerState (Fuse D)). x.sweeps) its.same in (
      record {
        quiet = subst (IsQuietLife bytes o first life) (sym its.now) over.quiet;
        device = record {
          reads = subst (λ (x : D). ReadsAs (run (beginning first bytes) life).past.opened (run (beginning first bytes) life).past.calls (seen x)) (sym its.device) over.device.reads;
          leaves = λ image left. over.device.leaves image
              (armed_leaves count (fuse_state before.world.device) (may_leave (fuse_device before.world.device)) image
              (subst (λ (x : FuseState). FuseLeaves x (may_leave (fuse_device before.world.device)) image) its.state
              (subst (λ (x : D). FuseLeaves (fuse_state after.world.device) (may_leave x) image) its.device left)));
        };
        rests = subst NobodyCalls (sym its.now) over.rests;
        keeps = subst (SeatsKeepKeys bytes first life) (sym (ap (λ (x : PlayerState (Fuse D)). x.seats) its.same)) over.keeps;
        begins = λ none. sweeps ∙ over.begins none;
      },
      sweeps,
    )
