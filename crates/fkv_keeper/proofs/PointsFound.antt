-- The points, the end and the epoch of the commit in hand are those that the search has told which has begun last.
use Rattle.std.proofs.Common.{◌≡◌, ℕ, ◌∙◌, ◌⊎◌, inl, inr, List, [], ◌∷◌, refl, ap, sym, subst, Bool, true, false, length}
use Rattle.std.specs.Prelude.{not, ◌+◌, Option, Some, None, ◌==◌, nat_lt, max, if◌then◌else◌, ⊤}
use Rattle.fkv_base.specs.declared.numbers.Addr.{Addr}
use Rattle.fkv_base.specs.declared.numbers.Serial.{Serial}
use Rattle.fkv_base.specs.declared.numbers.Version.{Version}
use Rattle.fkv_base.specs.declared.shapes.Shape.{Shape}
use Rattle.fkv_plane.specs.declared.asks.Ask.{Ask}
use Rattle.fkv_plane.specs.declared.asks.Ask.TheVariants.{Done}
use Rattle.fkv_plane.specs.declared.places.Places.{Places}
use Rattle.fkv_commit.specs.declared.commits.Commit.{Commit}
use Rattle.fkv_commit.specs.declared.deferring.DeferAnswer.{DeferAnswer}
use Rattle.fkv_commit.specs.declared.deferring.DeferAnswer.TheVariants.{Held, Spent, Armed}
use Rattle.fkv_commit.specs.declared.seeking.SeekAnswer.{SeekAnswer}
use Rattle.fkv_commit.specs.declared.seeking.SeekAnswer.TheVariants as seek
use Rattle.fkv_commit.specs.declared.seeking.Seeking.{Seeking}
use Rattle.fkv_commit.specs.declared.seeking.Seeking.TheVariants as seeks
use Rattle.fkv_commit.specs.declared.starting.StartAnswer.{StartAnswer}
use Rattle.fkv_commit.specs.declared.starting.StartAnswer.TheVariants as start
use Rattle.fkv_commit.specs.Cuts.{serial_said, is_cut_of}
use Rattle.fkv_commit.specs.Deferring.{defer_begun, defer_ask, defer_next}
use Rattle.fkv_commit.specs.Seeking.{SeekState, seek_begun, owing_from, points_from, point_taken, with_point, slot_led, defer_led, seeking_next, seek_ask, seek_next}
use Rattle.fkv_commit.specs.Starting.{start_ask, start_next}
use Rattle.fkv_keeper.specs.declared.answers.KeeperTold.{KeeperTold}
use Rattle.fkv_keeper.specs.declared.keepers.Keeping.{Keeping}
use Rattle.fkv_keeper.specs.declared.keepers.Keeping.TheVariants.{Ended, Starts, LoadsPhase, Seeks, Waits}
use Rattle.fkv_keeper.specs.Keeping.{KeeperState, start_ledto, seek_ledto, keeping_next, keeping_given, keeping_called}
use Rattle.fkv_keeper.specs.KeeperRun.{KeeperEvent, Replies, is_in_hand, keeper_happens, keeper_run, IsOpened}
use Rattle.fkv_keeper.specs.CheckpointLaws.{IsBegun, IsCommitAfter}
use Rattle.fkv_keeper.specs.PartLaws.{IsSeekBegun, IsWaitBegun, IsPartBegun, undone_by, taken_after, taken_by, SafeEnd, end_of, end_begun, end_taken, end_after, seek_after, Found, found_by, found_after, points_found, found_of, HasFound}
use Rattle.fkv_keeper.proofs.Happens.{happens_at, happens_so}
use Rattle.fkv_keeper.proofs.CheckpointMoves.{IsMove, each_move}
use Rattle.fkv_keeper.proofs.PartMoves.{IsPart, each_part}

-- a search is for the number with which it has begun
either : (b : Bool) (x y : SeekState) (n : Version) → x.number ≡ n → y.number ≡ n → (if b then x else y).number ≡ n
either true x y n ex ey = ex
either false x y n ex ey = ey

owing_number : (s : SeekState) (session : ℕ) → (owing_from s session).number ≡ s.number
owing_number s session = either (nat_lt session s.sessions) (record s { step = seeks.LoadsOwing session }) (record s { defer = defer_begun s.defer; step = seeks.SeeksSlot }) s.number refl refl

from_number : (s : SeekState) → (points_from s).number ≡ s.number
from_number s = either (nat_lt (length s.points) s.sessions) (record s { step = seeks.LoadsCut }) (record s { step = seeks.StoresWaitFlush }) s.number refl refl

taken_number : (s : SeekState) (serial : ℕ) → (point_taken s serial).number ≡ s.number
taken_number s serial = from_number (with_point s serial)

slot_number : (s : SeekState) (ask : Ask DeferAnswer) → (slot_led s ask).number ≡ s.number
unfolding slot_led
slot_number s (Done Held) = from_number s
slot_number s (Done Spent) = refl
slot_number s (Done its) = refl
slot_number s ask = refl

defer_number : (end : Addr) (s : SeekState) (ask : Ask DeferAnswer) → (defer_led end s ask).number ≡ s.number
unfolding defer_led
defer_number end s (Done (Armed epoch)) = refl
defer_number end s (Done its) = refl
defer_number end s ask = refl

next_number : (s : SeekState) (step : Seeking) (reply : ℕ) → (seeking_next s step reply).number ≡ s.number
unfolding seeking_next
next_number s (seeks.Ended its) reply = refl
next_number s (seeks.LoadsOwing session) reply = either (reply == 0) (owing_from s _) (record s { step = seeks.Ended seek.Owing }) s.number (owing_number s _) refl
next_number s seeks.SeeksSlot reply = slot_number (record s { defer = defer_next s.defer reply }) (defer_ask (defer_next s.defer reply))
next_number s seeks.LoadsCut reply = either (is_cut_of s.number.0 reply) (point_taken s (serial_said reply)) (record s { step = seeks.LoadsOther reply }) s.number (taken_number s (serial_said reply)) refl
next_number s (seeks.LoadsOther first) reply =
    either (not (is_cut_of (s.number.0 + 1) reply)) (point_taken s (max (serial_said first) (serial_said reply))) (record s { step = seeks.LoadsAgain }) s.number (taken_number s (max (serial_said first) (serial_said reply))) refl
next_number s seeks.LoadsAgain reply = taken_number s (serial_said reply)
next_number s seeks.StoresWaitFlush reply = refl
next_number s seeks.LoadsTail reply = refl
next_number s (seeks.RaisesReadOnly end) reply = refl
next_number s (seeks.Defers end) reply = defer_number end (record s { defer = defer_next s.defer reply }) (defer_ask (defer_next s.defer reply))

begun_number : (s : SeekState) (number : Version) (floor : List Serial) → (seek_begun s number floor).number ≡ number
begun_number s number floor = owing_number (record s { number = number; floor = floor; points = [] }) 0

-- what holds at every moment
pub record IsFound (found : Option Found) (s : KeeperState) : Type 0 where
  pub ended : (f : Found) → found ≡ Some f → (s.seek.number ≡ f.number) × (s.seek.points ≡ f.points) × (seek_ask s.seek ≡ Done (seek.Taken f.end.end f.end.epoch))
  pub known : (c : Commit) → s.commit ≡ Some c → s.has_points ≡ true → found ≡ Some (found_of s c)
  pub seeking : s.step ≡ Seeks → (c : Commit) → s.commit ≡ Some c → s.seek.number ≡ c.number
  pub anew : s.step ≡ Seeks → s.has_points ≡ false
  pub waiting : s.step ≡ Waits → s.has_points ≡ true

no_commit : (c : Commit) → None ≡ Some c → ⊥
no_commit c e = cc

none_found : (f : Found) → None ≡ Some f → ⊥
none_found f e = cc

same_commit : (its c : Commit) → Some its ≡ Some c → its ≡ c
same_commit its c both = cc

found_same : (its f : Found) → Some its ≡ Some f → its ≡ f
found_same its f both = cc

truth : true ≡ false → ⊥
truth e = cc

untruth : (b : Bool) → b ≡ false → b ≡ true → ⊥
untruth b one other = let clash : false ≡ true = sym one ∙ other in cc

-- points are the same by their parts
abbrev found_made : Version → List Serial → SafeEnd → Found
found_made n p e = record { number = n; points = p; end = e }

found_as : (n m : Version) (p q : List Serial) (e f : SafeEnd) → n ≡ m → p ≡ q → e ≡ f → Some (found_made n p e) ≡ Some (found_made m q f)
found_as n m p q e f number points end = cc

seeks_loads : (step : Keeping) → step ≡ Seeks → step ≡ LoadsPhase → ⊥
seeks_loads step one other = let clash : Seeks ≡ LoadsPhase = sym one ∙ other in cc

seeks_waits : (step : Keeping) → step ≡ Seeks → step ≡ Waits → ⊥
seeks_waits step one other = let clash : Seeks ≡ Waits = sym one ∙ other in cc

seeks_starts : (step : Keeping) → step ≡ Seeks → step ≡ Starts → ⊥
seeks_starts step one other = let clash : Seeks ≡ Starts = sym one ∙ other in cc

loads_starts : (step : Keeping) → step ≡ LoadsPhase → step ≡ Starts → ⊥
loads_starts step one other = let clash : LoadsPhase ≡ Starts = sym one ∙ other in cc

starts_ended : (step : Keeping) (told : KeeperTold) → step ≡ Starts → step ≡ Ended told → ⊥
starts_ended step told one other = let clash : Starts ≡ Ended told = sym one ∙ other in cc

-- the commit in hand was in hand, with its number
kept_commit : (s a : KeeperState) (c : Commit) → IsCommitAfter s.commit s a → (IsBegun s a → ⊥) → a.commit ≡ Some c → (was : Commit) × (s.commit ≡ Some was) × (c.number ≡ was.number)
kept_commit s a c after not_begun in_hand = by s.commit refl after
  where
    by : (found : Option Commit) → s.commit ≡ found → IsCommitAfter found s a → (was : Commit) × (s.commit ≡ Some was) × (c.number ≡ was.number)
    by None e (inl none) = absurd (no_commit c (sym none ∙ in_hand))
    by None e (inr begun) = absurd (not_begun begun)
    by (Some was) e (inl goes) = (was, e, ap (λ (x : Commit). x.number) (same_commit c goes.commit (sym in_hand ∙ goes.in_hand)) ∙ goes.number)
    by (Some was) e (inr (inl finish)) = absurd (no_commit c (sym finish.none_in_hand ∙ in_hand))
    by (Some was) e (inr (inr begun)) = absurd (not_begun begun)

-- an event by which no search begins or goes on
abbrev IsOther : KeeperEvent → Keeping → Keeping → Type 0
IsOther (Replies reply granted) LoadsPhase Seeks = ⊥
IsOther (Replies reply granted) Seeks next = ⊥
IsOther event step next = ⊤

same_found : (event : KeeperEvent) (step next : Keeping) (m : SeekState) (was : Option Found) → IsOther event step next → found_after event step next m was ≡ was
same_found (Replies reply granted) LoadsPhase Seeks m was other = absurd other
same_found (Replies reply granted) Seeks next m was other = absurd other
same_found event step next m was other = refl

same_seek : (event : KeeperEvent) (step next : Keeping) (m : SeekState) → IsOther event step next → seek_after event step m ≡ m
same_seek (Replies reply granted) Seeks next m other = absurd other
same_seek event step next m other = refl

undone_kept : (ask : Ask StartAnswer) (b : Bool) (was : SafeEnd) → undone_by ask b ≡ true → (b ≡ true) × (end_begun ask was ≡ was)
undone_kept (Done (start.Begun number first)) b was e = cc
undone_kept ask b was e = (e, refl)

same_known : (event : KeeperEvent) (step next : Keeping) (s : KeeperState) (was : SafeEnd) → IsOther event step next → taken_after event step s ≡ true → (s.has_points ≡ true) × (end_after event step s was ≡ was)
same_known (Replies reply granted) Starts next s was other e = undone_kept (start_ask (start_next s.start reply)) s.has_points was e
same_known (Replies reply granted) Seeks next s was other e = absurd other
same_known event step next s was other e = (e, refl)

taken_waits : (event : KeeperEvent) (s : KeeperState) → taken_after event Waits s ≡ s.has_points
taken_waits (Replies reply granted) s = refl
taken_waits event s = refl

taken_loads : (event : KeeperEvent) (s : KeeperState) → taken_after event LoadsPhase s ≡ s.has_points
taken_loads (Replies reply granted) s = refl
taken_loads event s = refl

not_sought : (event : KeeperEvent) (s a : KeeperState) → (s.step ≡ Seeks) ⊎ IsSeekBegun s event a → s.step ≡ LoadsPhase → IsOther event LoadsPhase Seeks → ⊥
not_sought event s a (inl under_way) loads other = seeks_loads s.step under_way loads
not_sought event s a (inr begun) loads other = subst (λ (x : KeeperEvent). IsOther x LoadsPhase Seeks) begun.phase.loaded other

still_waits : (found : Option Found) (event : KeeperEvent) (s a : KeeperState) → IsPart event s.step s a → IsFound found s → (s.step ≡ LoadsPhase → a.step ≡ Seeks → ⊥) → (s.step ≡ Waits) ⊎ IsWaitBegun s event a → a.has_points ≡ true
still_waits found event s a part been none (inl waits) = part.knows.taken none ∙ ap (λ (x : Keeping). taken_after event x s) waits ∙ taken_waits event s ∙ been.waiting waits
still_waits found event s a part been none (inr begun) = part.knows.taken none ∙ ap (λ (x : Keeping). taken_after event x s) begun.phase.loads ∙ taken_loads event s ∙ begun.taken

kept : (p : Places) (found : Option Found) (event : KeeperEvent) (s a : KeeperState) → IsMove p s event a → IsPart event s.step s a → (IsBegun s a → a.has_points ≡ false) → (a.step ≡ Seeks → a.has_points ≡ false) → IsOther event s.step a.step → IsFound found s
    → IsFound (found_after event s.step a.step a.seek found) a
kept p found event s a move part anew fresh other been = record {
  ended = λ f e. let its = been.ended f (sym same ∙ e) in (ap (λ (x : SeekState). x.number) seek ∙ its.0, ap (λ (x : SeekState). x.points) seek ∙ its.1, ap seek_ask seek ∙ its.2);
  known = λ c in_hand taken.
      let was = kept_commit s a c move.copies.commit (λ begun. truth (sym taken ∙ anew begun)) in_hand in
      let still = same_known event s.step a.step s (end_of was.0) other (sym (part.knows.taken no_search) ∙ taken) in
      let its = been.known was.0 was.1 still.0 in
      same ∙ its ∙ found_as was.0.number c.number s.seek.points a.seek.points (end_of was.0) (end_of c)
      (sym was.2) (ap (λ (x : SeekState). x.points) (sym seek)) (sym (part.knows.end was.0 c was.1 in_hand ∙ still.1));
  seeking = λ now c in_hand. searching now c in_hand (begins now);
  anew = fresh;
  waiting = λ now. still_waits found event s a part been no_search (subst (λ (x : Keeping). IsPartBegun x s event a) now part.begins);
}
  where
    same : found_after event s.step a.step a.seek found ≡ found
    same = same_found event s.step a.step a.seek found other

    begins : a.step ≡ Seeks → (s.step ≡ Seeks) ⊎ IsSeekBegun s event a
    begins now = subst (λ (x : Keeping). IsPartBegun x s event a) now part.begins

    no_search : s.step ≡ LoadsPhase → a.step ≡ Seeks → ⊥
    no_search loads now = not_sought event s a (begins now) loads (subst (λ (x : Keeping). IsOther event x Seeks) loads (subst (λ (x : Keeping). IsOther event s.step x) now other))

    seek : a.seek ≡ s.seek
    seek = part.knows.seek no_search ∙ same_seek event s.step a.step s.seek other

    searching : a.step ≡ Seeks → (c : Commit) → a.commit ≡ Some c → (s.step ≡ Seeks) ⊎ IsSeekBegun s event a → a.seek.number ≡ c.number
    searching now c in_hand (inl under_way) =
        let was = kept_commit s a c move.copies.commit (λ begun. seeks_starts s.step under_way begun.starts) in_hand in
        ap (λ (x : SeekState). x.number) seek ∙ been.seeking under_way was.0 was.1 ∙ sym was.2
    searching now c in_hand (inr begun) = absurd (no_search begun.phase.loads now)

-- a search begins
begun_found : (p : Places) (found : Option Found) (event : KeeperEvent) (s a : KeeperState) → IsMove p s event a → IsPart event s.step s a → s.step ≡ LoadsPhase → a.step ≡ Seeks → (a.step ≡ Seeks → a.has_points ≡ false) → IsFound found s → IsFound None a
begun_found p found event s a move part loads now fresh been = record {
  ended = λ f e. absurd (none_found f e);
  known = λ c in_hand taken. absurd (untruth a.has_points (fresh now) taken);
  anew = fresh;
  seeking = λ same c in_hand. searching c in_hand (subst (λ (x : Keeping). IsPartBegun x s event a) now part.begins);
  waiting = λ waits. absurd (seeks_waits a.step now waits);
}
  where
    searching : (c : Commit) → a.commit ≡ Some c → (s.step ≡ Seeks) ⊎ IsSeekBegun s event a → a.seek.number ≡ c.number
    searching c in_hand (inl under_way) = absurd (seeks_loads s.step under_way loads)
    searching c in_hand (inr begun) =
        let was = kept_commit s a c move.copies.commit (λ starts. loads_starts s.step loads starts.starts) in_hand in
        ap (λ (x : SeekState). x.number) begun.seek ∙ begun_number s.seek begun.commit.number s.last.points ∙ ap (λ (x : Commit). x.number) (same_commit begun.commit was.0 (sym begun.in_hand ∙ was.1)) ∙ sym was.2

-- one goes on
record IsToldAs (m : SeekState) (ask : Ask SeekAnswer) (f : Found) : Type 0 where
  number : m.number ≡ f.number
  points : m.points ≡ f.points
  told : ask ≡ Done (seek.Taken f.end.end f.end.epoch)
  end : (was : SafeEnd) → end_taken ask was ≡ f.end

by_ask : (m : SeekState) (ask : Ask SeekAnswer) (f : Found) → found_by ask m ≡ Some f → IsToldAs m ask f
by_ask m (Done (seek.Taken end epoch)) f e = record {
  number = ap (λ (x : Found). x.number) same;
  points = ap (λ (x : Found). x.points) same;
  told = ap (λ (x : Found). Done (seek.Taken x.end.end x.end.epoch)) same;
  end = λ was. ap (λ (x : Found). x.end) same;
}
  where
    same : record { number = m.number; points = m.points; end = record { end = end; epoch = epoch } } ≡ f
    same = found_same (record { number = m.number; points = m.points; end = record { end = end; epoch = epoch } }) f e
by_ask m ask f e = absurd (none_found f e)

-- what it takes it has found
told_found : (m : SeekState) (ask : Ask SeekAnswer) (b : Bool) (was : SafeEnd) → b ≡ false → taken_by ask b ≡ true → found_by ask m ≡ Some (record { number = m.number; points = m.points; end = end_taken ask was })
told_found m (Done (seek.Taken end epoch)) b was none taken = refl
told_found m ask b was none taken = absurd (untruth b none taken)

driven_found : (p : Places) (found : Option Found) (reply : ℕ) (granted : Bool) (s a : KeeperState) → IsMove p s (Replies reply granted) a → IsPart (Replies reply granted) Seeks s a → s.step ≡ Seeks → (a.step ≡ Seeks → a.has_points ≡ false) → IsFound found s
    → IsFound (found_by (seek_ask a.seek) a.seek) a
driven_found p found reply granted s a move part under_way fresh been = record {
  ended = λ f e. let its = by_ask a.seek (seek_ask a.seek) f e in (its.number, its.points, its.told);
  known = λ c in_hand taken.
      let was = kept_commit s a c move.copies.commit not_begun in_hand in
      let told : taken_by (seek_ask a.seek) s.has_points ≡ true =
      ap (λ (x : SeekState). taken_by (seek_ask x) s.has_points) driven ∙ sym (part.knows.taken (λ loads now. seeks_loads Seeks refl loads)) ∙ taken in
      told_found a.seek (seek_ask a.seek) s.has_points (end_of was.0) (been.anew under_way) told
      ∙ found_as a.seek.number c.number a.seek.points a.seek.points (end_taken (seek_ask a.seek) (end_of was.0)) (end_of c)
      (number c in_hand) refl (ap (λ (x : SeekState). end_taken (seek_ask x) (end_of was.0)) driven ∙ sym (part.knows.end was.0 c was.1 in_hand));
  seeking = λ now c in_hand. number c in_hand;
  anew = fresh;
  waiting = λ now. no_wait (subst (λ (x : Keeping). IsPartBegun x s (Replies reply granted) a) now part.begins);
}
  where
    driven : a.seek ≡ seek_next s.seek reply
    driven = part.knows.seek (λ loads now. seeks_loads Seeks refl loads)

    not_begun : IsBegun s a → ⊥
    not_begun begun = seeks_starts s.step under_way begun.starts

    number : (c : Commit) → a.commit ≡ Some c → a.seek.number ≡ c.number
    number c in_hand =
        let was = kept_commit s a c move.copies.commit not_begun in_hand in
        ap (λ (x : SeekState). x.number) driven ∙ next_number s.seek s.seek.step reply ∙ been.seeking under_way was.0 was.1 ∙ sym was.2

    no_wait : (s.step ≡ Waits) ⊎ IsWaitBegun s (Replies reply granted) a → a.has_points ≡ true
    no_wait (inl waits) = absurd (seeks_waits s.step under_way waits)
    no_wait (inr begun) = absurd (seeks_loads s.step under_way begun.phase.loads)

-- nothing is known of a commit that has just begun
started : (s t : KeeperState) (ask : Ask StartAnswer) → t.step ≡ Starts → IsBegun s (start_ledto t ask) → (start_ledto t ask).has_points ≡ false
unfolding start_ledto
started s t (Done (start.Begun number first)) e begun = refl
started s t (Done (start.Refused why)) e begun = let told = begun.told in cc
started s t (Done start.Idle) e begun = let told = begun.told in cc
started s t ask e begun = absurd (starts_ended t.step _ e begun.told)

anew_at : (shape : Shape) (p : Places) (s : KeeperState) (event : KeeperEvent) → s.step ≡ Starts → IsBegun s (happens_at shape p s Starts event) → (happens_at shape p s Starts event).has_points ≡ false
unfolding keeping_next keeping_given keeping_called
anew_at shape p s (Replies reply granted) e begun = started s (record s { start = start_next s.start reply }) (start_ask (start_next s.start reply)) e begun
anew_at shape p s event e begun = absurd (starts_ended s.step _ e begun.told)

anew : (shape : Shape) (p : Places) (s : KeeperState) (event : KeeperEvent) → IsBegun s (keeper_happens shape p s event) → (keeper_happens shape p s event).has_points ≡ false
anew shape p s event begun = subst (λ (x : KeeperState). x.has_points ≡ false) same (anew_at shape p s event begun.starts (subst (λ (x : KeeperState). IsBegun s x) (sym same) begun))
  where
    same : happens_at shape p s Starts event ≡ keeper_happens shape p s event
    same = ap (λ (x : Keeping). happens_at shape p s x event) (sym begun.starts) ∙ happens_so shape p s event

-- nor as a search begins, nor while it goes on
goes_on : (t : KeeperState) (ask : Ask SeekAnswer) → (seek_ledto t ask).step ≡ Seeks → (seek_ledto t ask).has_points ≡ t.has_points
unfolding seek_ledto
goes_on t (Done (seek.Taken end epoch)) now = cc
goes_on t (Done seek.DrainFull) now = refl
goes_on t (Done seek.EpochsSpent) now = refl
goes_on t (Done seek.Owing) now = refl
goes_on t (Done seek.Idle) now = refl
goes_on t ask now = refl

going_at : (shape : Shape) (p : Places) (s : KeeperState) (event : KeeperEvent) → s.step ≡ Seeks → (happens_at shape p s Seeks event).step ≡ Seeks → (happens_at shape p s Seeks event).has_points ≡ s.has_points
unfolding keeping_next keeping_given keeping_called
going_at shape p s (Replies reply granted) e now = goes_on (record s { seek = seek_next s.seek reply }) (seek_ask (seek_next s.seek reply)) now
going_at shape p s event e now = refl

going : (shape : Shape) (p : Places) (s : KeeperState) (event : KeeperEvent) → s.step ≡ Seeks → (keeper_happens shape p s event).step ≡ Seeks → (keeper_happens shape p s event).has_points ≡ s.has_points
going shape p s event e now = ap (λ (x : KeeperState). x.has_points) (sym same) ∙ going_at shape p s event e (ap (λ (x : KeeperState). x.step) same ∙ now)
  where
    same : happens_at shape p s Seeks event ≡ keeper_happens shape p s event
    same = ap (λ (x : Keeping). happens_at shape p s x event) (sym e) ∙ happens_so shape p s event

none_yet : (shape : Shape) (p : Places) (found : Option Found) (s : KeeperState) (event : KeeperEvent) → IsFound found s → (keeper_happens shape p s event).step ≡ Seeks → (keeper_happens shape p s event).has_points ≡ false
none_yet shape p found s event been now = by (subst (λ (x : Keeping). IsPartBegun x s event (keeper_happens shape p s event)) now (each_part shape p s event).begins)
  where
    by : (s.step ≡ Seeks) ⊎ IsSeekBegun s event (keeper_happens shape p s event) → (keeper_happens shape p s event).has_points ≡ false
    by (inl under_way) = going shape p s event under_way now ∙ been.anew under_way
    by (inr begun) = begun.anew

event_found : (p : Places) (found : Option Found) (s a : KeeperState) (event : KeeperEvent) (step next : Keeping) → s.step ≡ step → a.step ≡ next → IsMove p s event a → IsPart event s.step s a → (IsBegun s a → a.has_points ≡ false) → (a.step ≡ Seeks → a.has_points ≡ false) → IsFound found s
    → IsFound (found_after event step next a.seek found) a
event_found p found s a (Replies reply granted) LoadsPhase Seeks e now move part begun fresh been = begun_found p found (Replies reply granted) s a move part e now fresh been
event_found p found s a (Replies reply granted) Seeks next e now move part begun fresh been =
    driven_found p found reply granted s a move (subst (λ (x : Keeping). IsPart (Replies reply granted) x s a) e part) e fresh been
event_found p found s a event step next e now move part begun fresh been =
    subst (λ (x : Keeping). IsFound (found_after event x next a.seek found) a) e
    (subst (λ (x : Keeping). IsFound (found_after event s.step x a.seek found) a) now
    (kept p found event s a move part begun fresh (subst (λ (x : Keeping). IsOther event x a.step) (sym e) (subst (λ (x : Keeping). IsOther event step x) (sym now) tt)) been))

no_start : (step : Keeping) → is_in_hand step ≡ false → is_in_hand step ≡ true → ⊥
no_start step one other = let clash : false ≡ true = sym one ∙ other in cc

pub run_found : (shape : Shape) (p : Places) (opening : KeeperState) (events : List KeeperEvent) → IsOpened opening → IsFound (points_found shape p opening events) (keeper_run shape p opening events)
unfolding keeper_run points_found
run_found shape p opening [] opened = record {
  ended = λ f e. absurd (none_found f e);
  known = λ c in_hand taken. absurd (no_commit c (sym opened.no_commit ∙ in_hand));
  anew = λ now. absurd (no_start opening.step opened.none_in_hand (ap is_in_hand now));
  seeking = λ now. absurd (no_start opening.step opened.none_in_hand (ap is_in_hand now));
  waiting = λ now. absurd (no_start opening.step opened.none_in_hand (ap is_in_hand now));
}
run_found shape p opening (event ∷ before) opened =
    event_found p (points_found shape p opening before) s (keeper_happens shape p s event) event s.step (keeper_happens shape p s event).step refl refl (each_move shape p s event) (each_part shape p s event) (anew shape p s event) (none_yet shape p (points_found shape p opening before) s event (run_found shape p opening before opened)) (run_found shape p opening before opened)
  where
    s : KeeperState
    s = keeper_run shape p opening before

-- what the law says of it
pub has_found : (found : Option Found) (s : KeeperState) → IsFound found s → HasFound found s
has_found found s its = record { still = λ f e. let ended = its.ended f e in record { points = ended.1; told = ended.2 }; taken = its.known }
