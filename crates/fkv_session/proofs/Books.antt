-- The accounts of a session, as each kind of step changes them.
use Rattle.std.proofs.Common.{◌≡◌, ℕ, ◌+◌, ◌<◌, ◌≤◌, ◌∙◌, zero, suc, List, [], ◌∷◌, ◌++◌, length, refl, arith, ap, subst, Bool}
use Rattle.std.specs.Prelude.{map, slice_get, Some}
use Rattle.std.specs.List.{remove}
use Rattle.fkv_words.specs.Fields.{bit_of}
use Rattle.fkv_base.specs.declared.numbers.Serial.{Serial}
use Rattle.fkv_pending.specs.declared.pending_requests.RequestName.{RequestName}
use Rattle.fkv_pending.specs.declared.pending_requests.RequestName.TheVariants.{Update, Read}
use Rattle.fkv_pending.specs.declared.pending_requests.Ticket.{Ticket}
use Rattle.fkv_map.specs.declared.operations.Reply.{Reply}
use Rattle.fkv_ops.specs.declared.answers.Reason.{Reason}
use Rattle.fkv_session.specs.declared.answers.Finished.{Finished}
use Rattle.fkv_session.specs.declared.answers.Told.{Told}
use Rattle.fkv_session.specs.declared.answers.Told.TheVariants as told
use Rattle.fkv_session.specs.SessionRun.{Telling, telling}
use Rattle.fkv_session.specs.Accounts.{serials_given, serials_after, name_finished, names_finished, polled, number_of, AreInTurn, AreAccountedFor, RiseWithin}

pub record AreBooksKept (first serial : ℕ) (told : List Telling) (waiting : List RequestName) (in_hand : List Finished) : Type 0 where
  pub serials : AreInTurn first serial told
  pub accounts : AreAccountedFor told waiting in_hand
  pub rising : RiseWithin first serial waiting

pub number_append : {A : Type 0} (such : A → Bool) (xs ys : List A) → number_of such (xs ++ ys) ≡ number_of such xs + number_of such ys
number_append such [] ys = omega arith
number_append such (x ∷ xs) ys = let rest = number_append such xs ys in omega (arith, rest)

pub number_removed : {A : Type 0} (such : A → Bool) (xs : List A) (i : ℕ) (x : A) → slice_get xs i ≡ Some x → number_of such xs ≡ number_of such (remove xs i) + bit_of (such x)
number_removed such [] i x got = cc
number_removed such (o ∷ xs) zero x got = let same : o ≡ x = cc in rw same (omega arith)
number_removed such (o ∷ xs) (suc i) x got = let rest = number_removed such xs i x got in omega (arith, rest)

map_append : {A B : Type 0} (f : A → B) (xs : List A) (x : A) → map f (xs ++ x ∷ []) ≡ map f xs ++ f x ∷ []
map_append f [] x = refl
map_append f (o ∷ xs) x = ap (λ rest. f o ∷ rest) (map_append f xs x)

pub names_append : (its : List Finished) (it : Finished) → names_finished (its ++ it ∷ []) ≡ names_finished its ++ name_finished it ∷ []
names_append its it = map_append name_finished its it

-- how the order is kept
pub rise_lower : (low low' top : ℕ) (xs : List RequestName) → low' ≤ low → RiseWithin low top xs → RiseWithin low' top xs
rise_lower low low' top [] le rise = omega (arith, le, rise)
rise_lower low low' top (Update serial ∷ rest) le rise = let above = rise.0 in (omega (arith, le, above), rise.1)
rise_lower low low' top (Read ticket ∷ rest) le rise = rise_lower low low' top rest le rise

pub rise_higher : (low top top' : ℕ) (xs : List RequestName) → top ≤ top' → RiseWithin low top xs → RiseWithin low top' xs
rise_higher low top top' [] le rise = omega (arith, le, rise)
rise_higher low top top' (Update serial ∷ rest) le rise = (rise.0, rise_higher serial.0 top top' rest le rise.1)
rise_higher low top top' (Read ticket ∷ rest) le rise = rise_higher low top top' rest le rise

pub rise_removed : (low top : ℕ) (xs : List RequestName) (i : ℕ) → RiseWithin low top xs → RiseWithin low top (remove xs i)
rise_removed low top [] zero rise = rise
rise_removed low top [] (suc i) rise = rise
rise_removed low top (Update serial ∷ rest) zero rise = let above = rise.0 in rise_lower serial.0 low top rest (omega (arith, above)) rise.1
rise_removed low top (Update serial ∷ rest) (suc i) rise = (rise.0, rise_removed serial.0 top rest i rise.1)
rise_removed low top (Read ticket ∷ rest) zero rise = rise
rise_removed low top (Read ticket ∷ rest) (suc i) rise = rise_removed low top rest i rise

pub rise_update : (low top : ℕ) (xs : List RequestName) (serial : Serial) → top < serial.0 → RiseWithin low top xs → RiseWithin low serial.0 (xs ++ Update serial ∷ [])
rise_update low top [] serial more rise = (omega (arith, more, rise), omega arith)
rise_update low top (Update before ∷ rest) serial more rise = (rise.0, rise_update before.0 top rest serial more rise.1)
rise_update low top (Read ticket ∷ rest) serial more rise = rise_update low top rest serial more rise

pub rise_read : (low top : ℕ) (xs : List RequestName) (ticket : Ticket) → RiseWithin low top xs → RiseWithin low top (xs ++ Read ticket ∷ [])
rise_read low top [] ticket rise = rise
rise_read low top (Update before ∷ rest) ticket rise = (rise.0, rise_read before.0 top rest ticket rise.1)
rise_read low top (Read before ∷ rest) ticket rise = rise_read low top rest ticket rise

-- an answer that accepts no request, and is none of a poll
abbrev pub IsPlain : Told → Type 0
IsPlain (told.Done serial its) = ⊥
IsPlain (told.Pending serial why) = ⊥
IsPlain (told.PendingRead ticket) = ⊥
IsPlain (told.Polled left) = ⊥
IsPlain its = Unit {0}

pub plain_kept : (first serial : ℕ) (before : List Telling) (waiting : List RequestName) (its : Told) (finished : List Finished) → IsPlain its
    → AreBooksKept first serial before waiting [] → AreBooksKept first serial (telling its finished ∷ before) waiting []
plain_kept first serial before waiting (told.Done n its) finished plain books = absurd plain
plain_kept first serial before waiting (told.Pending n why) finished plain books = absurd plain
plain_kept first serial before waiting (told.PendingRead ticket) finished plain books = absurd plain
plain_kept first serial before waiting (told.Polled left) finished plain books = absurd plain
plain_kept first serial before waiting (told.Found value) finished plain books = record { serials = record { in_turn = books.serials.in_turn; counted = books.serials.counted }; accounts = books.accounts; rising = books.rising }
plain_kept first serial before waiting told.Absent finished plain books = record { serials = record { in_turn = books.serials.in_turn; counted = books.serials.counted }; accounts = books.accounts; rising = books.rising }
plain_kept first serial before waiting (told.Refreshed phase version) finished plain books = record { serials = record { in_turn = books.serials.in_turn; counted = books.serials.counted }; accounts = books.accounts; rising = books.rising }
plain_kept first serial before waiting (told.Woken phase version) finished plain books = record { serials = record { in_turn = books.serials.in_turn; counted = books.serials.counted }; accounts = books.accounts; rising = books.rising }
plain_kept first serial before waiting told.Slept finished plain books = record { serials = record { in_turn = books.serials.in_turn; counted = books.serials.counted }; accounts = books.accounts; rising = books.rising }
plain_kept first serial before waiting (told.Durable n) finished plain books = record { serials = record { in_turn = books.serials.in_turn; counted = books.serials.counted }; accounts = books.accounts; rising = books.rising }
plain_kept first serial before waiting (told.Refused why) finished plain books = record { serials = record { in_turn = books.serials.in_turn; counted = books.serials.counted }; accounts = books.accounts; rising = books.rising }

-- a poll tells what it has in hand
pub polled_kept : (first serial : ℕ) (before : List Telling) (waiting : List RequestName) (left : ℕ) (finished : List Finished)
    → AreBooksKept first serial before waiting finished → AreBooksKept first serial (telling (told.Polled left) finished ∷ before) waiting []
polled_kept first serial before waiting left finished books = record {
  serials = record { in_turn = books.serials.in_turn; counted = books.serials.counted };
  accounts = λ such.
      let was = books.accounts such in
      let both = number_append such (names_finished finished) (polled before) in
      omega (arith, was, both);
  rising = books.rising;
}

next_serial : (first serial : ℕ) (before : List Telling) (its : List ℕ) (n : ℕ) → its ≡ n ∷ serials_given before → n ≡ serial + 1 → AreInTurn first serial before
    → (its ≡ serials_after first (length its)) × (serial + 1 ≡ first + length its)
next_serial first serial before its n e same books =
    let counted = books.counted in
    let number : n ≡ first + suc (length (serials_given before)) = omega (arith, same, counted) in
    rw e (ap (λ rest. n ∷ rest) books.in_turn ∙ ap (λ (first_one : ℕ). first_one ∷ serials_after first (length (serials_given before))) number, omega (arith, counted))

-- an update is done at its call
pub done_kept : (first serial : ℕ) (before : List Telling) (waiting : List RequestName) (n : Serial) (its : Reply) (finished : List Finished) → n.0 ≡ serial + 1
    → AreBooksKept first serial before waiting [] → AreBooksKept first (serial + 1) (telling (told.Done n its) finished ∷ before) waiting []
done_kept first serial before waiting n its finished same books =
    let next = next_serial first serial before (serials_given (telling (told.Done n its) finished ∷ before)) n.0 refl same books.serials in
    record { serials = record { in_turn = next.0; counted = next.1 }; accounts = books.accounts; rising = rise_higher first serial (serial + 1) waiting (omega arith) books.rising }

-- an update is accepted and waits
pub update_kept : (first serial : ℕ) (before : List Telling) (waiting : List RequestName) (n : Serial) (why : Reason) (finished : List Finished) → n.0 ≡ serial + 1
    → AreBooksKept first serial before waiting [] → AreBooksKept first (serial + 1) (telling (told.Pending n why) finished ∷ before) (waiting ++ Update n ∷ []) []
update_kept first serial before waiting n why finished same books =
    let next = next_serial first serial before (serials_given (telling (told.Pending n why) finished ∷ before)) n.0 refl same books.serials in
    record {
      serials = record { in_turn = next.0; counted = next.1 };
      accounts = λ such.
          let was = books.accounts such in
          let both = number_append such waiting (Update n ∷ []) in
          omega (arith, was, both);
      rising = subst (λ top. RiseWithin first top (waiting ++ Update n ∷ [])) same (rise_update first serial waiting n (omega (arith, same)) books.rising);
    }

-- a read waits
pub read_kept : (first serial : ℕ) (before : List Telling) (waiting : List RequestName) (ticket : Ticket) (finished : List Finished)
    → AreBooksKept first serial before waiting [] → AreBooksKept first serial (telling (told.PendingRead ticket) finished ∷ before) (waiting ++ Read ticket ∷ []) []
read_kept first serial before waiting ticket finished books = record {
  serials = record { in_turn = books.serials.in_turn; counted = books.serials.counted };
  accounts = λ such.
      let was = books.accounts such in
      let both = number_append such waiting (Read ticket ∷ []) in
      omega (arith, was, both);
  rising = rise_read first serial waiting ticket books.rising;
}

-- a poll finishes a request
pub finished_kept : (first serial : ℕ) (before : List Telling) (waiting : List RequestName) (finished : List Finished) (i : ℕ) (it : Finished) → slice_get waiting i ≡ Some (name_finished it)
    → AreBooksKept first serial before waiting finished → AreBooksKept first serial before (remove waiting i) (finished ++ it ∷ [])
finished_kept first serial before waiting finished i it got books = record {
  serials = books.serials;
  accounts = λ such.
      let was = books.accounts such in
      let gone = number_removed such waiting i (name_finished it) got in
      let more = number_append such (names_finished finished) (name_finished it ∷ []) in
      let same : number_of such (names_finished (finished ++ it ∷ [])) ≡ number_of such (names_finished finished ++ name_finished it ∷ []) = ap (number_of such) (names_append finished it) in
      omega (arith, was, gone, more, same);
  rising = rise_removed first serial waiting i books.rising;
}
