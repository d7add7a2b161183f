-- What is read of a device that holds a store.
use Rattle.std.proofs.Common.{◌≡◌, ◌∙◌, ◌↔◌, List, ℕ, Result, Ok, Err, IfErr, subst, sym}
use Rattle.std.specs.Result.{IsErrAnd}
use Rattle.fkv_base.specs.declared.faults.Fault.{Fault}
use Rattle.fkv_base.specs.declared.faults.Fault.TheVariants.{Damaged, Device, Memory, NotAStore}
use Rattle.fkv_base.specs.declared.numbers.Key.{Key}
use Rattle.fkv_base.specs.declared.numbers.Value.{Value}
use Rattle.fkv_disk.specs.Device.{LeavesNoMore, LeavesOnly}
use Rattle.fkv_opening.specs.Faults.{IsFaultOf, IsRefused}
use Rattle.fkv_opening.specs.Opened.{IsStoreOf}
use Rattle.fkv_opening.specs.declared.opened_store.Opened.{Opened}
use Rattle.fkv_pairs.specs.Pairs.{ArePairs, log_of_store}
use Rattle.fkv_cli.specs.Output.{HoldsStore, IsFound, IsUnread}

module _ {F : Type 0} (honest : F → Type 0) (seen : F → List ℕ) (may_leave : F → List ℕ → Type 0) where
  -- a store was recovered of a device, and then its pairs
  pub found_so : (device first read last after : F) (opened : Opened) (pairs : List (Key × Value)) → first ≡ device → after ≡ last → honest first ↔ honest read → honest read ↔ honest last
      → (honest first → seen read ≡ seen first) → (honest read → seen last ≡ seen read) → (honest first → IsStoreOf (seen first) opened) → (honest first → LeavesOnly (seen first) (may_leave read))
      → (honest read → LeavesNoMore (may_leave read) (may_leave last)) → (honest read → (store : IsStoreOf (seen read) opened) → ArePairs (log_of_store (seen read) opened store) pairs)
      → IsFound honest seen may_leave device opened pairs after
  found_so device first read last after opened pairs begun ended one two same still store synced no_more are =
      subst (λ (d : F). IsFound honest seen may_leave d opened pairs after) begun (subst (λ (d : F). IsFound honest seen may_leave first opened pairs d) (sym ended) its)
    where
      all : honest first → (its : IsStoreOf (seen first) opened) → ArePairs (log_of_store (seen first) opened its) pairs
      all h = subst (λ (image : List ℕ). (its : IsStoreOf image opened) → ArePairs (log_of_store image opened its) pairs) (same h) (are (one.0 h))

      its : IsFound honest seen may_leave first opened pairs last
      its = record {
        holds = λ h. record { is_honest = two.0 (one.0 h); reads = still (one.0 h) ∙ same h; synced = λ image left. synced h image (no_more (one.0 h) image left); store = store h };
        recovered = λ h. record { store = store h; are_pairs = all h (store h) };
      }

  -- a new store was made on a device
  pub new_so : (old new : F) (opened : Opened) → honest old ↔ honest new → (honest old → IsStoreOf (seen new) opened) → (honest old → LeavesOnly (seen new) (may_leave new))
      → honest old → HoldsStore honest seen may_leave (seen new) opened new
  new_so old new opened both store synced h = record { is_honest = both.0 h; reads = λ i. seen new; synced = synced h; store = store h }

-- recovery is refused over a device that reads as the image
pub unread_so : (before now : ℕ) (honest its : Type 0) (image read : List ℕ) (fault : Fault) → (honest → its) → read ≡ image → IsRefused before now its (IsFaultOf read) fault → IsUnread honest image fault
unread_so before now honest its image read NotAStore to same so = λ h. subst (λ (bytes : List ℕ). IsFaultOf bytes NotAStore) same (so (to h))
unread_so before now honest its image read (Damaged part place) to same so = λ h. subst (λ (bytes : List ℕ). IsFaultOf bytes (Damaged part place)) same (so (to h))
unread_so before now honest its image read Device to same so = tt
unread_so before now honest its image read Memory to same so = tt
unread_so before now honest its image read other to same so = so

-- a fault that is handed on
pub passed_on : {T : Type 0} (result : Result T Fault) (fault : Fault) (P : Fault → Type 0) → IsErrAnd result (λ e. e ≡ fault) → P fault → IfErr result P
passed_on (Ok found) fault P is so = tt
passed_on (Err e) fault P is so = subst P (sym is) so
