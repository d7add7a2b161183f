-- The cut words, the owing words and the durable words of an opened store: they show the points of its newest commit, and that nothing is owed.
use Rattle.std.proofs.Common.{◌≡◌, ◌∙◌, ap, sym, refl, subst, arith, ℕ, ◌+◌, ◌-◌, ◌*◌, ◌%◌, ◌^◌, ◌<◌, ◌≤◌, Bool, true, false, length, inl, inr}
use Rattle.std.specs.Prelude.{◌==◌, if◌then◌else◌, nat_eq, Some, slice_get}
use Rattle.std.proofs.Math.Nat.{min-eq_left}
use Rattle.std.proofs.lemmas.Bool.Decides.{nat_tests}
use Rattle.std.proofs.lemmas.List.{get_or-map}
use Rattle.std.proofs.lemmas.Option.{slice_get-get_or, slice_get_within}
use Rattle.fkv_base.specs.Limits.{last_serial}
use Rattle.fkv_base.specs.declared.numbers.Serial.{Serial}
use Rattle.fkv_marks.specs.Marks.{mark}
use Rattle.law_commit.specs.Below.fkv_commit.Cuts.{serial_said}
use Rattle.law_commit.specs.Below.fkv_commit.Finishing as finishing
use Rattle.law_opening.specs.Below.fkv_core.OpeningPlaces.{StandAsTold, StandOfSession}
use Rattle.law_opening.specs.Below.fkv_core.Openings.{IsOpeningWorld}
use Rattle.law_commit.specs.Below.fkv_keeper.Keeping.{Finality}
use Rattle.law_opening.specs.Below.fkv_opening.Opening.{point_of}
use Rattle.law_opening.specs.Below.fkv_opening.TheOpened.{Opened}
use Rattle.fkv_plane.specs.Asked.{word_at}
use Rattle.fkv_plane.specs.Places.{session_place}
use Rattle.fkv_plane.specs.declared.places.SessionWord.TheVariants as own
use Rattle.law_commit.specs.Below.fkv_session.CatchingUp.{cut_at, cut_of}
use Rattle.law_commit.specs.Below.fkv_session.Sessions.{SessionState}
use Rattle.law_commit.specs.Below.fkv_world.World.{Now, seat_at}
use Rattle.law_commit.specs.Cuts.{IsCutPlace, ShowCuts, ShowsCut, ShowsDurable}
use Rattle.law_commit.proofs.OfCuts.Serials.{low_said}
use Rattle.law_opening.proofs.OfChanges.OfDevice.Mailboxes.{are_told, words_told}

module _ (o : Opened) (n : Now) (its : IsOpeningWorld o n) (told : StandAsTold o n.words) where
  stands : (session : ℕ) (there : session < o.shape.sessions) → StandOfSession session (words_told o session there) n.words
  stands session there = told.sessions session (words_told o session there) there (are_told o session there)

  -- the cut word of the commit's parity
  cut_there : (session : ℕ) → session < o.shape.sessions → word_at n.words (session_place session (cut_of o.number.0)) ≡ point_of o session + mark o.number.0 * 2 ^ 48
  cut_there session there = by_parity (o.number.0 % 2 == 0) refl
    where
      by_parity : (even : Bool) → (o.number.0 % 2 == 0) ≡ even → word_at n.words (session_place session (if even then own.EvenCut else own.OddCut)) ≡ point_of o session + mark o.number.0 * 2 ^ 48
      by_parity true e = let yes : nat_eq (o.number.0 % 2) 0 ≡ true = grind (arith, nat_tests, e) in (stands session there).even_cut ∙ rw yes refl
      by_parity false e = let yes : nat_eq (o.number.0 % 2) 1 ≡ true = grind (arith, nat_tests, e) in (stands session there).odd_cut ∙ rw yes refl

  cut_so : (serial version : ℕ) → serial ≤ last_serial → cut_at serial version ≡ serial + mark version * 2 ^ 48
  cut_so serial version small = ap (λ (n : ℕ). n + mark version * 2 ^ 48) (min-eq_left small)

  -- neither cut word shows more than the point
  low : (is_its : Bool) (point number serial word : ℕ) → point ≤ serial → serial ≤ last_serial → word ≡ (if is_its then point else 0) + (if is_its then number else 0) * 2 ^ 48 → serial_said word ≤ serial
  low true point number serial word few small is = low_said word serial (omega (arith, few, small, is))
  low false point number serial word few small is = low_said word serial (omega (arith, is))

  none_above : (session serial : ℕ) → session < o.shape.sessions → serial ≡ point_of o session → serial ≤ last_serial → (place : ℕ) → IsCutPlace session place → serial_said (word_at n.words place) ≤ serial
  none_above session serial there same small place (inl even) =
      low (nat_eq (o.number.0 % 2) 0) (point_of o session) (mark o.number.0) serial (word_at n.words place) (omega (arith, same)) small (ap (λ (at : ℕ). word_at n.words at) even ∙ (stands session there).even_cut)
  none_above session serial there same small place (inr odd) =
      low (nat_eq (o.number.0 % 2) 1) (point_of o session) (mark o.number.0) serial (word_at n.words place) (omega (arith, same)) small (ap (λ (at : ℕ). word_at n.words at) odd ∙ (stands session there).odd_cut)

  session_shows : (session : ℕ) (s : SessionState) → slice_get n.sessions session ≡ Some s → ShowsCut (seat_at n session) s (λ place. word_at n.words place)
  session_shows session s found =
      let sits = its.its_sessions session s found in
      let saw : s.seen.version.0 ≡ o.number.0 + 1 = sits.saw.version in
      let few = o.few_commits in
      let many = its.seats in
      let within = slice_get_within n.sessions session s found in
      let there : session < o.shape.sessions = omega (arith, many, within) in
      let number : o.number.0 ≡ s.seen.version.0 - 1 = omega (arith, saw) in
      let serial = sits.serial in
      let said : cut_at s.serial o.number.0 ≡ s.serial + mark o.number.0 * 2 ^ 48 = cut_so s.serial o.number.0 sits.opened.serial_fits in
      record {
        version = (omega (arith, saw), omega (arith, saw, few));
        cut = subst (λ (version : ℕ). word_at n.words (session_place session (cut_of version)) ≡ cut_at s.serial version) number
            (cut_there session there ∙ (ap (λ (x : ℕ). x + mark o.number.0 * 2 ^ 48) (sym serial) ∙ sym said));
        serials = λ place is_cut. none_above session s.serial there serial sits.opened.serial_fits place is_cut;
        owing = (stands session there).owing;
      }

  pub cuts_open : ShowCuts n
  cuts_open = λ session s found. session_shows session s found

  -- a session's point
  point_found : (session : ℕ) → session < o.shape.sessions → point_of o session ≡ finishing.point_of (slice_get o.points.items session)
  point_found session there =
      let many = o.each_session in
      let within : session < length o.points.items = omega (arith, many, there) in
      let none : Serial = record { 0 = 0 } in
      get_or-map (λ (point : Serial). point.0) o.points.items session none 0 within ∙ sym (ap finishing.point_of (slice_get-get_or o.points.items session none within))

  pub durable_opens : ShowsDurable n
  durable_opens = record {
    points = λ session within.
        let many = its.its_places.sessions in
        let there : session < o.shape.sessions = omega (arith, many, within) in
        (stands session there).durable ∙ (point_found session there ∙ ap (λ (last : Finality). finishing.point_of (slice_get last.points session)) (sym its.its_keeper.newest));
    sessions = its.its_keeper.its_sessions ∙ sym its.its_places.sessions;
  }
