-- A serial up to a session's point of a version was taken at this version or an earlier one. So no update waits under it that is of a later one.
use Rattle.std.proofs.Common.{◌≡◌, inl, inr, ℕ, ◌+◌, ◌<◌, ◌≤◌, List, [], ◌∷◌, refl, arith, sym, subst, Bool, true, false}
use Rattle.std.specs.Prelude.{◌==◌, cond, nat_le}
use Rattle.std.proofs.lemmas.Bool.Decides.{nat_tests}
use Rattle.fkv_map.specs.declared.operations.Op.{Op}
use Rattle.law_commit.specs.Below.fkv_ops.Requests.{is_read}
use Rattle.law_commit.specs.Below.fkv_pending.PendingRequest.{PendingRequest}
use Rattle.law_commit.specs.Below.fkv_pending.RequestName.{RequestName}
use Rattle.law_commit.specs.Below.fkv_pending.RequestName.TheVariants.{Update, Read}
use Rattle.law_commit.specs.Below.fkv_session.Accounts.{is_update, names_of, number_of}
use Rattle.law_commit.specs.Below.fkv_session.Versions.{AreAsTaken, IsAsTaken, TakenAt, WasTakenAt}
use Rattle.law_commit.specs.Accepted.{NeverFall, count_upto, versions_of}
use Rattle.law_commit.specs.Quiet.{IsLater}
use Rattle.law_commit.specs.Versions.Effects.{IsTakenAt}
use Rattle.law_commit.specs.Versions.Requests.{AreUpdatesSo, IsUpdateSo}
use Rattle.law_commit.proofs.OfVersions.Points.{FollowFrom, count_low, lengths, taken_low}
use Rattle.law_commit.proofs.OfVersions.Requests.{AllTaken, Is}
use Rattle.law_commit.specs.Below.law_refine.Events.Names.{AreNamedSo, is_read_name}

-- ---- the versions at which serials were taken
-- none was taken up to the first one
pub taken_above : (first n version : ℕ) (taken : List TakenAt) → FollowFrom first taken → IsTakenAt taken n version → first < n
taken_above first n version [] follow was = absurd was
taken_above first n version (it ∷ before) follow (inl its) = let next = follow.0 in let same = its.0 in omega (arith, next, same)
taken_above first n version (it ∷ before) follow (inr was) = taken_above first n version before follow.1 was

pub taken_upto : (first last high n version : ℕ) (taken : List TakenAt) → FollowFrom first taken → NeverFall high (versions_of taken) → IsTakenAt taken n version → n ≤ first + count_upto last (versions_of taken) → version ≤ last
taken_upto first last high n version [] follow falls was low = absurd was
taken_upto first last high n version (it ∷ before) follow falls was low =
    by_test (nat_le it.version last) refl (λ older least. taken_upto first last it.version n version before follow.1 falls.1 older least) was low
  where
    count : ℕ
    count = count_upto last (versions_of before)

    by_test : (b : Bool) → nat_le it.version last ≡ b → (IsTakenAt before n version → n ≤ first + count → version ≤ last) → IsTakenAt (it ∷ before) n version → n ≤ first + cond b (count + 1) count → version ≤ last
    by_test true e again (inl its) least =
        let up : it.version ≤ last = grind (arith, nat_tests, e) in
        let same = its.1 in
        omega (arith, up, same)
    by_test true e again (inr older) least =
        let up : it.version ≤ last = grind (arith, nat_tests, e) in
        let rest = taken_low first it.version n version before follow.1 falls.1 older in
        let most = rest.version_low in
        omega (arith, up, most)
    by_test false e again (inl its) least =
        let next = follow.0 in
        let same = its.0 in
        let few = count_low last (versions_of before) in
        let all = lengths before in
        absurd (omega (arith, least, next, same, few, all))
    by_test false e again (inr older) least = again older least

was_at : (low high n : ℕ) (op : Op) (version : ℕ) (taken : List TakenAt) → AllTaken (Is low high) taken → WasTakenAt taken n op version → IsTakenAt taken n version
was_at low high n op version [] all was = absurd was
was_at low high n op version (it ∷ before) all (inl its) = inl (its.0, sym (its.1.1 all.0.1))
was_at low high n op version (it ∷ before) all (inr was) = inr (was_at low high n op version before all.1 was)

-- ---- what waits
none_named : (last n low high : ℕ) (pending : PendingRequest) (name : RequestName) (taken : List TakenAt) → ((version : ℕ) → IsTakenAt taken n version → version ≤ last) → is_read_name name ≡ is_read pending.request.op
    → AllTaken (Is low high) taken → IsAsTaken taken name pending.request.op pending.request.version.0 → IsUpdateSo (IsLater last) pending → is_update n name ≡ false
none_named last n low high pending (Update serial) taken up named all was later = by_test (serial.0 == n) refl
  where
    by_test : (b : Bool) → (serial.0 == n) ≡ b → b ≡ false
    by_test true e =
        let same : serial.0 ≡ n = grind (arith, nat_tests, e) in
        let most = up pending.request.version.0 (was_at low high n pending.request.op pending.request.version.0 taken all (subst (λ (i : ℕ). WasTakenAt taken i pending.request.op pending.request.version.0) same was)) in
        let above = later (sym named) in
        absurd (omega (arith, most, above))
    by_test false e = refl
none_named last n low high pending (Read ticket) taken up named all was later = refl

pub none_waits : (last n low high : ℕ) (taken : List TakenAt) (requests : List PendingRequest) → ((version : ℕ) → IsTakenAt taken n version → version ≤ last) → AreNamedSo requests → AllTaken (Is low high) taken
    → AreAsTaken taken requests → AreUpdatesSo (IsLater last) requests → number_of (is_update n) (names_of requests) ≡ 0
none_waits last n low high taken [] up named all are later = refl
none_waits last n low high taken (pending ∷ rest) up named all are later =
    let none = none_named last n low high pending pending.name taken up named.0 all are.0 later.0 in
    let more = none_waits last n low high taken rest up named.1 all are.1 later.1 in
    rw none (omega (arith, more))
