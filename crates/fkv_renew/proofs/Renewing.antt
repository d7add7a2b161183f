-- Renewals, from device to device.
use Rattle.std.proofs.Common.{◌≡◌, ◌∙◌, ◌↔◌, ℕ, List, Option, Some, None, IsSomeAnd, refl, sym, ap, subst, unwrap_or}
use Rattle.std.specs.Prelude.{Result, Ok, Err, IfErr}
use Rattle.std.specs.Result.{IsErrAnd}
use Rattle.fkv_base.specs.declared.faults.Fault.{Fault}
use Rattle.fkv_base.specs.declared.faults.Fault.TheVariants.{Damaged, Device, Memory, NotAStore}
use Rattle.fkv_base.specs.declared.numbers.Key.{Key}
use Rattle.fkv_base.specs.declared.numbers.Value.{Value}
use Rattle.fkv_base.specs.declared.shapes.Shape.{Shape}
use Rattle.fkv_disk.specs.Device.{LeavesOnly}
use Rattle.fkv_opening.specs.Faults.{IsFaultOf, IsRefused}
use Rattle.fkv_opening.specs.Opened.{IsStoreOf}
use Rattle.fkv_opening.specs.declared.opened_store.Opened.{Opened}
use Rattle.fkv_pairs.specs.Pairs.{ArePairs, log_of_store}
use Rattle.fkv_renewing.specs.Renewed.{AreSomePairs, IsRenewal}
use Rattle.fkv_renewing.specs.Room.{HasRoomFor}
use Rattle.fkv_spread.specs.declared.keys.Keys.{Keys}
use Rattle.fkv_renew.specs.Files.{Files}
use Rattle.fkv_renew.specs.Renewals.{IsHindrance, IsRefusal, IsRenewalOf, IsUnrenewed, IsWanted, Renews, refusal_of_old, saved_of}
use Rattle.fkv_renew.specs.Stores.{IsHeld, IsLaid, IsUnread}
use Rattle.fkv_renew.specs.declared.renewals.Refusal.{Refusal}
use Rattle.fkv_renew.specs.declared.renewals.Refusal.TheVariants as refusal
use Rattle.fkv_renew.specs.declared.saved.Saved.{Saved}
use Rattle.fkv_renew.specs.declared.stores.Store.{Store}
use Rattle.fkv_renew.specs.declared.words.Asked.{Asked}

-- the store that an image holds, with its pairs, where a device reads as that image still
pub held_by : (image read still : List ℕ) (opened : Opened) (pairs : List (Key × Value)) → read ≡ image → still ≡ read → IsStoreOf read opened
    → ((store : IsStoreOf still opened) → ArePairs (log_of_store still opened store) pairs) → (store : IsStoreOf image opened) × ArePairs (log_of_store image opened store) pairs
held_by image read still opened pairs is same held are =
    let here = subst (λ (x : List ℕ). IsStoreOf x opened) is held in
    let all = subst (λ (x : List ℕ). (store : IsStoreOf x opened) → ArePairs (log_of_store x opened store) pairs) (same ∙ is) are in
    (here, all here)

-- the store whose keys are laid has the old one's shape
sized_by : (wanted : Option Shape) (store laid : Store) (shape : Shape) → laid.opened ≡ store.opened → shape ≡ unwrap_or wanted laid.opened.shape → shape ≡ unwrap_or wanted store.opened.shape
sized_by wanted store laid shape same sized = sized ∙ ap (λ (opened : Opened). unwrap_or wanted opened.shape) same

module _ {N : Type 0} (honest : N → Type 0) (seen : N → List ℕ) (may_leave : N → List ℕ → Type 0) where
  -- what a renewal wrote has a name
  pub named_renewal : (store : Store) (shape : Shape) (pairs : List (Key × Value)) → pairs ≡ store.pairs.items → (named : Option N) (old new : N) → named ≡ Some new → honest old ↔ honest new
      → (honest old → AreSomePairs pairs → IsRenewal shape store.opened.points.items pairs (seen new)) → (honest old → LeavesOnly (seen new) (may_leave new))
      → IsSomeAnd named (IsRenewalOf honest seen may_leave store shape)
  named_renewal store shape pairs same named old new is both renewed synced =
      let its : IsRenewalOf honest seen may_leave store shape new = record {
        reads = λ h some. subst (λ (ps : List (Key × Value)). IsRenewal shape store.opened.points.items ps (seen new)) same (renewed (both.1 h) (subst AreSomePairs (sym same) some));
        synced = λ h. synced (both.1 h);
      } in
      subst (λ (o : Option N). IsSomeAnd o (IsRenewalOf honest seen may_leave store shape)) (sym is) its

  module _ {O : Type 0} (old_honest : O → Type 0) (old_seen : O → List ℕ) where
    -- so a store is renewed from one device to another
    pub renewed_so : (wanted : Option Shape) (keys : Keys) (old : O) (named : Option N) (Has : N → Type 0) (store laid : Store) (shape : Shape) (saved : Saved) → (old_honest old → AreSomePairs store.pairs.items) → IsLaid keys store laid
        → shape ≡ unwrap_or wanted laid.opened.shape → (old_honest old → IsHeld (old_seen old) store) → HasRoomFor shape laid.opened.points.items laid.pairs.items
        → IsSomeAnd named Has → IsSomeAnd named (IsRenewalOf honest seen may_leave laid shape) → saved ≡ saved_of laid shape → (new : N) × (named ≡ Some new) × Has new × Renews old_honest old_seen honest seen may_leave wanted keys old new saved
    renewed_so wanted keys old None Has store laid shape saved some is sized held room has renewed says = absurd renewed
    renewed_so wanted keys old (Some new) Has store laid shape saved some is sized held room has renewed says = (
      new,
      refl,
      has,
      record {
        store = store;
        laid = laid;
        shape = shape;
        its_shape = sized_by wanted store laid shape is.opened sized;
        is_laid = is;
        room = room;
        says = says;
        held = held;
        renewed = λ o n. renewed.reads n (is.pairs.some (some o));
        synced = renewed.synced;
      },
    )

-- ---- why it isn't

-- recovery is refused over a device that reads as the image
pub unopened_so : (before now : ℕ) (honest its : Type 0) (image read : List ℕ) (fault : Fault) → (honest → its) → read ≡ image → IsRefused before now its (IsFaultOf read) fault → IsUnread honest image fault
unopened_so before now honest its image read NotAStore to same so = λ h. subst (λ (bytes : List ℕ). IsFaultOf bytes NotAStore) same (so (to h))
unopened_so before now honest its image read (Damaged part place) to same so = λ h. subst (λ (bytes : List ℕ). IsFaultOf bytes (Damaged part place)) same (so (to h))
unopened_so before now honest its image read Device to same so = tt
unopened_so before now honest its image read Memory to same so = tt
unopened_so before now honest its image read other to same so = so

-- a fault that is handed on
pub passed_on : {T : Type 0} (result : Result T Fault) (fault : Fault) (P : Fault → Type 0) → IsErrAnd result (λ e. e ≡ fault) → P fault → IfErr result P
passed_on (Ok found) fault P is so = tt
passed_on (Err e) fault P is so = subst P (sym is) so

module _ {O : Type 0} (honest : O → Type 0) (seen : O → List ℕ) (wanted : Option Shape) (keys : Keys) (old : O) where
  -- so no store was read
  pub none_read : (fault : Fault) → IsUnread (honest old) (seen old) fault → IsUnrenewed honest seen wanted keys old (refusal_of_old fault)
  none_read Memory so = tt
  none_read other so = so

  -- or it has no room
  pub no_room : (store laid : Store) (shape : Shape) (its : Refusal) → (honest old → IsHeld (seen old) store) → IsLaid keys store laid → shape ≡ unwrap_or wanted laid.opened.shape
      → IsHindrance shape laid.opened.points.items laid.pairs.items its → IsUnrenewed honest seen wanted keys old its
  no_room store laid shape (refusal.Unfit fault) held is sized why =
      record { store = store; laid = laid; shape = shape; its_shape = sized_by wanted store laid shape is.opened sized; is_laid = is; held = held; why = why }
  no_room store laid shape (refusal.First its) held is sized why = tt
  no_room store laid shape (refusal.New its) held is sized why = tt
  no_room store laid shape refusal.Memory held is sized why = tt
  no_room store laid shape (refusal.Sizes sizes) held is sized why = absurd why
  no_room store laid shape (refusal.Old its) held is sized why = absurd why
  no_room store laid shape (refusal.Unopened fault) held is sized why = absurd why

-- where the device is the old file
pub refused_so : {D : Type 0} (files : Files D) (asked : Asked) (wanted : Option Shape) (old : D) (its : Refusal) → IsWanted asked.sizes wanted → files.is_opened asked.old.now old
    → IsUnrenewed files.honest files.seen wanted asked.keys old its → IsRefusal files asked its
refused_so files asked wanted old (refusal.Unopened fault) sized opened why = (wanted, sized, old, opened, why)
refused_so files asked wanted old (refusal.Unfit fault) sized opened why = (wanted, sized, old, opened, why)
refused_so files asked wanted old (refusal.First its) sized opened why = (wanted, sized)
refused_so files asked wanted old (refusal.New its) sized opened why = (wanted, sized)
refused_so files asked wanted old refusal.Memory sized opened why = (wanted, sized)
refused_so files asked wanted old (refusal.Sizes refused) sized opened why = absurd why
refused_so files asked wanted old (refusal.Old its) sized opened why = absurd why
