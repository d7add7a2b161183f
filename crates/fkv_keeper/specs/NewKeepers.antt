-- The keeper as a store is opened.
use Rattle.std.specs.Prelude.{◌≡◌, ◌*◌, ◌^◌, List, true, false, None}
use Rattle.fkv_base.specs.declared.shapes.Shape.{Shape}
use Rattle.fkv_record.specs.declared.lost_ranges.LostRange.{LostRange}
use Rattle.fkv_plane.specs.declared.places.Places.{Places}
use Rattle.fkv_maintain.specs.declared.maintaining.Maintaining.TheVariants.{Through}
use Rattle.fkv_maintain.specs.Maintaining.{is_flush_resting}
use Rattle.fkv_sweep.specs.Sweeping.{sweep_begun}
use Rattle.fkv_keeper.specs.declared.answers.KeeperTold.TheVariants.{Turned}
use Rattle.fkv_keeper.specs.declared.keepers.Keeping.TheVariants.{Ended}
use Rattle.fkv_keeper.specs.Keeping.{Finality, KeeperModel}

-- The words lie where they do in a store of this shape.
pub record ArePlacesOfStore (shape : Shape) (p : Places) : Type 0 where
  pub sessions : p.sessions ≡ shape.sessions
  pub buckets : p.buckets ≡ 2 ^ shape.bucket_bits
  pub overflow : p.overflow ≡ shape.overflow
  pub ring : p.ring ≡ shape.frames * shape.page

-- The keeper of a store of this shape, which was opened at this newest finished commit with these lost ranges in hand. No call and no commit is in
-- hand, nothing is copied, nothing has failed, and nothing was done. No sweep has records to go over. Mailboxes are served of the log that begins where that commit's does.
pub record IsNewKeeper (shape : Shape) (last : Finality) (lost : List LostRange) (k : KeeperModel) : Type 0 where
  pub its_shape : k.shape ≡ shape
  pub its_places : ArePlacesOfStore shape k.places
  pub newest : k.state.last ≡ last
  pub serves_from : k.state.maintain.begin ≡ last.begin
  pub used : k.state.used ≡ last.checkpoint
  pub class : k.state.start.asked.class ≡ shape.class
  pub in_hand : k.state.lost ≡ lost
  pub its_sessions : k.state.finish.sessions ≡ shape.sessions
  pub sought : k.state.seek.sessions ≡ shape.sessions
  pub no_call : k.state.step ≡ Ended (Turned false false)
  pub turns_rest : k.state.maintain.step ≡ Through
  pub no_commit : k.state.commit ≡ None
  pub no_copy : k.state.copy ≡ None
  pub not_entered : k.state.has_entered ≡ false
  pub no_points : k.state.has_points ≡ false
  pub none_finished : k.state.has_finished ≡ false
  pub none_left_out : k.state.is_drain_full ≡ false
  pub works : k.state.is_broken ≡ false
  pub granted : k.state.is_granted ≡ true
  pub none_rest : k.state.rests ≡ false
  pub none_flushed : is_flush_resting k.state.maintain ≡ false
  pub none_swept : k.state.sweep ≡ sweep_begun k.shape k.places last.begin last.begin
