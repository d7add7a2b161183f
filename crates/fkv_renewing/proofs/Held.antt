-- The store that bytes hold, and its renewal.
use Rattle.std.proofs.Common.{◌≡◌, ◌∙◌, ℕ, List, [], Option, None, inl, inr, refl, sym, subst, unwrap_or}
use Rattle.fkv_base.specs.declared.faults.Fault.{Fault}
use Rattle.fkv_base.specs.declared.faults.Fault.TheVariants.{IndexFull, LogFull, Device, NotAStore, Damaged, Memory, NoSession}
use Rattle.fkv_base.specs.declared.numbers.Key.{Key}
use Rattle.fkv_base.specs.declared.numbers.Serial.{Serial}
use Rattle.fkv_base.specs.declared.numbers.Value.{Value}
use Rattle.fkv_base.specs.declared.shapes.Shape.{Shape}
use Rattle.fkv_disk.specs.Calls.{reads_as}
use Rattle.fkv_disk.specs.Quiet.{IsHindrance}
use Rattle.fkv_opening.specs.declared.opened_store.Opened.{Opened}
use Rattle.fkv_opening.specs.Faults.{IsFaultOf, IsRefused}
use Rattle.fkv_opening.specs.Opened.{IsStoreOf}
use Rattle.fkv_pairs.specs.Pairs.{ArePairs, log_of_store}
use Rattle.fkv_posted.specs.Outcomes.{AreOutcomes, calls_in}
use Rattle.fkv_posted.specs.Posting.{with_told}
use Rattle.fkv_posted.specs.declared.posted.Posted.{Posted}
use Rattle.fkv_spread.specs.declared.keys.Keys.{Keys}
use Rattle.fkv_renewing.specs.Bytes.{IsHeldIn, IsRefusedFrom, IsRenewedFrom, IsUnopened, in_memory}
use Rattle.fkv_renewing.specs.Laid.{AreLaid}
use Rattle.fkv_renewing.specs.Refused.{IsUnfit, IsRefused as IsRenewingRefused}
use Rattle.fkv_renewing.specs.Renewed.{AreSomePairs, IsRenewal}
use Rattle.fkv_renewing.specs.Room.{HasRoomFor}
use Rattle.fkv_renewing.proofs.Pairs.{some_pairs}

-- a device that reads as the bytes still holds them
pub held_by : (bytes read still : List ℕ) (opened : Opened) (pairs : List (Key × Value)) → read ≡ bytes → still ≡ read → IsStoreOf read opened → ((store : IsStoreOf still opened) → ArePairs (log_of_store still opened store) pairs)
    → IsHeldIn bytes opened pairs
held_by bytes read still opened pairs is same held are =
    let here = subst (λ (x : List ℕ). IsStoreOf x opened) is held in
    let all = subst (λ (x : List ℕ). (store : IsStoreOf x opened) → ArePairs (log_of_store x opened store) pairs) (same ∙ is) are in
    (here, all here)

-- an honest device is refused so
pub refused_by : (before now : ℕ) (premise : Type 0) (bytes : List ℕ) (why : Fault) → premise → IsRefused before now premise (IsFaultOf bytes) why → IsUnopened bytes (in_memory why)
refused_by before now premise bytes NotAStore honest so = inr (so honest)
refused_by before now premise bytes (Damaged part place) honest so = inr (so honest)
refused_by before now premise bytes Device honest so = inl refl
refused_by before now premise bytes Memory honest so = inl refl
refused_by before now premise bytes other honest so = absurd so

-- and so where it or memory fails
pub hindered : (before now : ℕ) (bytes : List ℕ) (why : Fault) → IsHindrance before now why → IsUnopened bytes (in_memory why)
hindered before now bytes Device so = inl refl
hindered before now bytes Memory so = inl refl
hindered before now bytes other so = absurd so

-- a device in memory fails for want of memory alone
unfit_in_memory : (shape : Shape) (points : List Serial) (pairs : List (Key × Value)) (before now : ℕ) (why : Fault) → IsRenewingRefused shape points pairs before now why → IsUnfit shape points pairs (in_memory why)
unfit_in_memory shape points pairs before now Device so = tt
unfit_in_memory shape points pairs before now Memory so = tt
unfit_in_memory shape points pairs before now IndexFull so = so
unfit_in_memory shape points pairs before now LogFull so = so
unfit_in_memory shape points pairs before now NoSession so = so
unfit_in_memory shape points pairs before now other so = absurd so

module _ (bytes : List ℕ) (wanted : Option Shape) (keys : Keys) (opened : Opened) (pairs laid passed : List (Key × Value)) (shape : Shape) (held : IsHeldIn bytes opened pairs) (are : AreLaid keys pairs laid)
    (sized : shape ≡ unwrap_or wanted opened.shape) (same : passed ≡ laid) where
  some : AreSomePairs passed
  some = subst AreSomePairs (sym same) (are.some (some_pairs _ pairs held.1))

  -- what was written is a renewal of that store
  pub renewed_so : (image : List ℕ) → HasRoomFor shape opened.points.items passed → (AreSomePairs passed → IsRenewal shape opened.points.items passed image) → IsRenewedFrom bytes wanted keys image
  renewed_so image room renewed = record {
    opened = opened;
    pairs = pairs;
    laid = passed;
    held = held;
    are_laid = subst (AreLaid keys pairs) (sym same) are;
    room = subst (λ (s : Shape). HasRoomFor s opened.points.items passed) sized room;
    renewed = subst (λ (s : Shape). IsRenewal s opened.points.items passed image) sized (renewed some);
  }

  -- or why it wasn't
  pub no_room : (before now : ℕ) (why told : Fault) → IsRenewingRefused shape opened.points.items passed before now why → told ≡ in_memory why → IsRefusedFrom bytes wanted keys told
  no_room before now why told so is = inr (record {
    opened = opened;
    pairs = pairs;
    laid = passed;
    held = held;
    are_laid = subst (AreLaid keys pairs) (sym same) are;
    why = subst (λ (s : Shape). IsUnfit s opened.points.items passed told) sized (subst (IsUnfit shape opened.points.items passed) (sym is) (unfit_in_memory shape opened.points.items passed before now why so));
  })

-- a medium that shows these bytes, of which nothing was told
module _ (p : Posted) (bytes : List ℕ) (opened : p.log.opened ≡ bytes) (outcomes : p.log.outcomes ≡ []) (told : p.told ≡ None) (failures : p.failures ≡ 0) where
  pub is_honest : AreOutcomes p.log.opened (with_told p.failures p.told p.log.outcomes)
  is_honest = rw (failures, told, outcomes) tt

  pub reads : reads_as p.log.opened (calls_in p.log.outcomes) ≡ bytes
  reads = rw outcomes opened
