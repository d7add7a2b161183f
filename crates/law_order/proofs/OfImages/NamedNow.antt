-- Which commit an image names at each moment of a run.
use Rattle.std.proofs.Common.{◌≡◌, ◌⊎◌, inl, inr, ℕ, ◌*◌, ◌≤◌, ◌∙◌, arith, refl, sym, ap, subst, Bool, true, false, List, [], ◌∷◌, ◌++◌, length}
use Rattle.std.specs.Prelude.{⊤, if◌then◌else◌, Option, Some}
use Rattle.fkv_base.specs.declared.commits.CommitKind.{CommitKind}
use Rattle.fkv_base.specs.declared.commits.CommitKind.TheVariants.{Full, Log}
use Rattle.fkv_base.specs.declared.numbers.Version.{Version}
use Rattle.fkv_base.specs.declared.shapes.Shape.{Shape}
use Rattle.law_commit.specs.Below.fkv_commit.Commit.{Commit}
use Rattle.fkv_disk.specs.Bytes.{bytes_at}
use Rattle.fkv_disk.specs.Calls.{Call, MayLeave, reads_as}
use Rattle.law_commit.specs.Below.fkv_keeper.Keeping.{Finality, KeeperState, come_to}
use Rattle.law_commit.specs.Below.fkv_keeper.KeeperRun.{KeeperEvent, Writing, is_in_hand, keeper_run, writing}
use Rattle.law_commit.proofs.Below.fkv_keeper.Shown.{run_rests}
use Rattle.law_commit.specs.Below.fkv_keeper.LastCommits.{area_number, slot_place}
use Rattle.law_commit.specs.Below.fkv_keeper.TheKeeping.{Keeping}
use Rattle.law_commit.specs.Below.fkv_keeper.TheKeeping.TheVariants.{Ended, Waits, Writes}
use Rattle.law_commit.specs.Below.fkv_keeper.Checkpoint.{Checkpoint}
use Rattle.law_commit.specs.Below.fkv_manifest.Committing.{CommitWriter}
use Rattle.law_commit.specs.Below.fkv_manifest.Kept.{AreTheSlots, Begins, LastStands, NewStands}
use Rattle.law_commit.specs.Below.fkv_manifest.Made.{commit_made, has_begun}
use Rattle.law_commit.specs.Below.fkv_manifest.Newest as manifest
use Rattle.law_commit.specs.Below.fkv_manifest.Newest.{slot_in}
use Rattle.fkv_plane.specs.declared.places.Places.{Places}
use Rattle.fkv_record.specs.Places.{area_place, most_triples}
use Rattle.law_commit.specs.BegunCommits.{AreInTurn, BegunCommit, commit_opening, commits_begun}
use Rattle.law_commit.specs.HeldCommits.{IsAsLast}
use Rattle.law_order.specs.Images.Named.{AreTriplesOf, slot_of}
use Rattle.law_order.proofs.OfImages.Begun.{AreWritesOf, HasBegunFor, HasSlot, IsLast, IsLeft, Lists, Uses, UsesOwn, is_called, plain}
use Rattle.law_order.proofs.OfImages.BegunRun.{At, BeginsAt, Holds, each_begun, either, event_on, more_made}
use Rattle.law_log.specs.Trace.{IsIn}
use Rattle.law_commit.proofs.Below.law_world.OfStanding.Runs.{run_begins}
use Rattle.law_commit.specs.Below.law_world.Standing.CallsMade.{calls_made}
use Rattle.law_commit.specs.Below.law_world.Standing.Opening.{AreNumbersInTurn, IsBehind, IsToldBy}
use Rattle.law_commit.specs.Below.law_world.Standing.Standing.{IsInForce, IsOneInForce, Standing, TriplesStand, is_writing, standing, standing_opened, triples_in}

-- numbers fall along the list
below : (c : BegunCommit) (rest : List BegunCommit) → AreInTurn (c ∷ rest) → (d : BegunCommit) → IsIn d (c ∷ rest) → d.number.0 ≤ c.number.0
below c rest turn d (inl same) = let e = ap (λ (x : BegunCommit). x.number.0) same in omega (arith, e)
below c [] turn d (inr other) = absurd other
below c (e ∷ rest) turn d (inr other) = let low = below e rest turn.1 d other in let next = turn.0 in omega (arith, low, next)

-- as long as the gate's write isn't called the last commit stands
abbrev pub StandsUncalled : Type 0
StandsUncalled =
    (w : CommitWriter) (opened : List ℕ) (before : List Call) (other : ℕ) (steps : List Bool) (image : List ℕ) → Begins w opened before other → MayLeave opened (commit_made w steps ++ before) image
    → has_begun w.gate.place (commit_made w steps) ≡ false → LastStands (reads_as opened before) other image

-- a commit that is sealed and not finished stands, whole
abbrev pub SealedStands : List BegunCommit → CommitWriter → List ℕ → Type 0
SealedStands begun w image = (d : BegunCommit) (rest : List BegunCommit) → begun ≡ d ∷ rest → d.is_finished ≡ false → d.is_sealed ≡ true → NewStands w image

not_both : (found : Option ℕ) (place other : ℕ) → AreTheSlots place other → found ≡ Some place → found ≡ Some other → ⊥
not_both found place other slots one two =
    let same : place ≡ other = (let both : Some place ≡ Some other = sym one ∙ two in cc) in
    elim slots [
      | inl low ↦ let a = low.0 in let b = low.1 in omega (arith, same, a, b)
      | inr high ↦ let a = high.0 in let b = high.1 in omega (arith, same, a, b)
    ]

module _ (shape : Shape) (opened : List ℕ) (first : BegunCommit) (Good : BegunCommit → Type 0) where
  -- what an image has of the commit that it names
  pub record Has (begun : List BegunCommit) (c : BegunCommit) (image : List ℕ) : Type 0 where
    pub in_force : manifest.newest image ≡ Some (slot_place c.number)
    pub slot : HasSlot shape opened first Good c (slot_in image (slot_place c.number))
    pub triples : AreTriplesOf shape opened first begun c.parts.checkpoint (triples_in shape image c.parts.checkpoint)
    pub fit : c.parts.checkpoint.triples ≤ most_triples shape
    pub behind : IsBehind shape c.parts.checkpoint (length image)

  pub record Named (begun : List BegunCommit) (image : List ℕ) : Type 0 where
    pub commit : BegunCommit
    pub is_in : IsIn commit begun
    pub current : AreInTurn begun → (d : BegunCommit) → IsIn d begun → d.is_finished ≡ true → (let c = commit in d.number.0 ≤ c.number.0)
    pub sealed : AreInTurn begun → (d : BegunCommit) → IsIn d begun → d.is_sealed ≡ true → (let c = commit in d.number.0 ≤ c.number.0)
    pub has : Has begun commit image

  -- ---- the newest finished one
  named_last : (last : Finality) (its : Standing) (begun : List BegunCommit) (image : List ℕ) → IsLast shape opened first Good last its begun → IsInForce last its image → TriplesStand shape last.checkpoint its image → Named begun image
  named_last last its begun image l force stand =
      let c : BegunCommit = l.newest in
      let number : c.number ≡ last.number = l.as_last.number in
      let checkpoint : c.parts.checkpoint ≡ last.checkpoint = l.as_last.checkpoint in
      let slot : slot_in image (slot_place c.number) ≡ its.slot = ap (λ (v : Version). slot_in image (slot_place v)) number ∙ force.slot in
      record {
        commit = c;
        is_in = subst (λ (x : List BegunCommit). IsIn c x) (sym l.list) (inl refl);
        current = λ turn d is done. below c l.older (subst AreInTurn l.list turn) d (subst (λ (x : List BegunCommit). IsIn d x) l.list is);
        sealed = λ turn d is done. below c l.older (subst AreInTurn l.list turn) d (subst (λ (x : List BegunCommit). IsIn d x) l.list is);
        has = record {
          in_force = force.in_force ∙ ap (λ (v : Version). Some (slot_place v)) (sym number);
          slot = subst (λ (bytes : List ℕ). HasSlot shape opened first Good c bytes) (sym slot) l.slot;
          triples = subst (λ (x : Checkpoint). AreTriplesOf shape opened first begun x (triples_in shape image x)) (sym checkpoint)
              (subst (λ (t : List ℕ). AreTriplesOf shape opened first begun last.checkpoint t) (sym stand.same) l.triples);
          fit = subst (λ (x : Checkpoint). x.triples ≤ most_triples shape) (sym checkpoint) stand.fit;
          behind = subst (λ (x : Checkpoint). IsBehind shape x (length image)) (sym checkpoint) stand.long;
        };
      }

  not_so : (b : Bool) → b ≡ true → b ≡ false → ⊥
  not_so b one other = let clash : true ≡ false = sym one ∙ other in cc

  -- though another has begun behind it
  named_before : (begun rest : List BegunCommit) (c : BegunCommit) (image : List ℕ) (later : HasBegunFor begun rest c) → ((let n = later.newest in n.is_sealed ≡ true) → ⊥) → Named rest image → Named begun image
  named_before begun rest c image later unsealed is =
      let d : BegunCommit = is.commit in
      let has = is.has in
      record {
        commit = d;
        is_in = subst (λ (x : List BegunCommit). IsIn d x) (sym later.its) (inr is.is_in);
        current = λ turn e there done. elim (subst (λ (x : List BegunCommit). IsIn e x) later.its there) [
          | inl same ↦ absurd (not_so e.is_finished done (ap (λ (x : BegunCommit). x.is_finished) (sym same) ∙ later.unfinished))
          | inr other ↦ is.current (subst AreInTurn later.its turn).1 e other done
        ];
        sealed = λ turn e there done. elim (subst (λ (x : List BegunCommit). IsIn e x) later.its there) [
          | inl same ↦ absurd (unsealed (subst (λ (x : BegunCommit). x.is_sealed ≡ true) (sym same) done))
          | inr other ↦ is.sealed (subst AreInTurn later.its turn).1 e other done
        ];
        has = record {
          in_force = has.in_force;
          slot = has.slot;
          triples = subst (λ (x : List BegunCommit). AreTriplesOf shape opened first x d.parts.checkpoint (triples_in shape image d.parts.checkpoint)) (sym later.its)
              (more_made shape opened first later.newest rest d.parts.checkpoint d.parts.checkpoint (triples_in shape image d.parts.checkpoint) refl has.triples);
          fit = has.fit;
          behind = has.behind;
        };
      }

  -- ---- the one that is written
  -- its triples
  pub record HasTriples (begun : List BegunCommit) (c : BegunCommit) (image : List ℕ) : Type 0 where
    pub triples : AreTriplesOf shape opened first begun c.parts.checkpoint (triples_in shape image c.parts.checkpoint)
    pub fit : c.parts.checkpoint.triples ≤ most_triples shape
    pub behind : IsBehind shape c.parts.checkpoint (length image)

  triples_new : (w : CommitWriter) (last : Finality) (its : Standing) (rest : List BegunCommit) (c d : BegunCommit) (image : List ℕ) (kind : CommitKind) → c.parts.kind ≡ kind → plain d ≡ c → AreWritesOf shape last w c → (c.parts.kind ≡ Full → c.parts.checkpoint.triples ≤ most_triples shape)
      → AreTriplesOf shape opened first rest last.checkpoint its.triples → NewStands w image → TriplesStand shape last.checkpoint its image → HasTriples (d ∷ rest) d image
  triples_new w last its rest c d image Full kind same writes few before new stand =
      let own : UsesOwn c = subst (λ (k : CommitKind). Uses k last c) kind writes.uses in
      let size : length w.triples ≡ 16 * d.parts.checkpoint.triples = ap (λ (t : List ℕ). length t) writes.triples ∙ (own.whole ∙ ap (λ (x : BegunCommit). 16 * x.parts.checkpoint.triples) (sym same)) in
      let area : w.area ≡ area_place shape (area_number d.parts.checkpoint.area) = writes.area ∙ ap (λ (x : BegunCommit). area_place shape (area_number x.parts.checkpoint.area)) (sym same) in
      let there : triples_in shape image d.parts.checkpoint ≡ w.triples =
      ap (λ (at : ℕ). bytes_at image at (16 * d.parts.checkpoint.triples)) (sym area) ∙ (ap (λ (m : ℕ). bytes_at image w.area m) (sym size) ∙ new.triples) in
      record {
        triples = inl (
          d,
          inl refl,
          record {
            full = ap (λ (x : BegunCommit). x.parts.kind) same ∙ kind;
            own = ap (λ (x : BegunCommit). x.parts.checkpoint.number) same ∙ (own.number ∙ ap (λ (x : BegunCommit). x.number) (sym same));
            first = ap (λ (x : BegunCommit). x.parts.checkpoint.first) same ∙ (own.first ∙ ap (λ (x : BegunCommit). x.parts.first) (sym same));
            checkpoint = refl;
            triples = ap (λ (x : BegunCommit). x.parts.triples) same ∙ (sym writes.triples ∙ sym there);
          },
        );
        fit = subst (λ (x : BegunCommit). x.parts.checkpoint.triples ≤ most_triples shape) (sym same) (few kind);
        behind = record {
          slots = stand.long.slots;
          triples = λ k low. (let reach = new.reaches k (omega (arith, low, size)) in omega (arith, reach, area));
        };
      }
  triples_new w last its rest c d image Log kind same writes few before new stand =
      let used : d.parts.checkpoint ≡ last.checkpoint = ap (λ (x : BegunCommit). x.parts.checkpoint) same ∙ subst (λ (k : CommitKind). Uses k last c) kind writes.uses in
      record {
        triples = more_made shape opened first d rest last.checkpoint d.parts.checkpoint (triples_in shape image d.parts.checkpoint) used
            (subst (λ (t : List ℕ). AreTriplesOf shape opened first rest last.checkpoint t) (sym stand.same ∙ ap (λ (x : Checkpoint). triples_in shape image x) (sym used)) before);
        fit = subst (λ (x : Checkpoint). x.triples ≤ most_triples shape) (sym used) stand.fit;
        behind = subst (λ (x : Checkpoint). IsBehind shape x (length image)) (sym used) stand.long;
      }

  named_new : (last : Finality) (its : Standing) (w : Writing) (calls : List Call) (begun : List BegunCommit) (image : List ℕ) (l : IsLeft shape opened first Good last its w calls begun) → (let c = l.commit in c.parts.kind ≡ Full → c.parts.checkpoint.triples ≤ most_triples shape)
      → HasBegunFor begun l.rest l.commit → NewStands w.first image → TriplesStand shape last.checkpoint its image → Named begun image
  named_new last its w calls begun image l few later new stand =
      let c : BegunCommit = l.commit in
      let d : BegunCommit = later.newest in
      let place : w.first.gate.place ≡ slot_place d.number = l.writes.place ∙ ap (λ (x : BegunCommit). slot_place x.number) (sym later.same) in
      let slot : slot_in image (slot_place d.number) ≡ slot_of shape d = ap (λ (at : ℕ). slot_in image at) (sym place) ∙ (new.slot ∙ (l.writes.slot ∙ ap (λ (x : BegunCommit). slot_of shape x) (sym later.same))) in
      let triples : HasTriples (d ∷ l.rest) d image = triples_new w.first last its l.rest c d image c.parts.kind refl later.same l.writes few l.before.triples new stand in
      record {
        commit = d;
        is_in = subst (λ (x : List BegunCommit). IsIn d x) (sym later.its) (inl refl);
        current = λ turn e there done. below d l.rest (subst AreInTurn later.its turn) e (subst (λ (x : List BegunCommit). IsIn e x) later.its there);
        sealed = λ turn e there done. below d l.rest (subst AreInTurn later.its turn) e (subst (λ (x : List BegunCommit). IsIn e x) later.its there);
        has = record {
          in_force = new.in_force ∙ ap (λ (at : ℕ). Some at) place;
          slot = inl (slot, subst Good (sym later.same) l.good);
          triples = subst (λ (x : List BegunCommit). AreTriplesOf shape opened first x d.parts.checkpoint (triples_in shape image d.parts.checkpoint)) (sym later.its) triples.triples;
          fit = triples.fit;
          behind = triples.behind;
        };
      }

  -- ---- either
  named_written : StandsUncalled → (last : Finality) (its : Standing) (w : Writing) (calls : List Call) (begun : List BegunCommit) (image : List ℕ) (l : IsLeft shape opened first Good last its w calls begun)
      → (let c = l.commit in c.parts.kind ≡ Full → c.parts.checkpoint.triples ≤ most_triples shape) → SealedStands begun w.first image → MayLeave opened calls image → IsInForce last its image ⊎ NewStands w.first image → TriplesStand shape last.checkpoint its image → Named begun image
  named_written gates last its w calls begun image l few seals left stands stand = by_called (is_called w) refl
    where
      later_or : (b : Bool) → is_called w ≡ b → Lists b begun l.rest l.commit
      later_or b e = subst (λ (x : Bool). Lists x begun l.rest l.commit) e l.list

      by_called : (b : Bool) → is_called w ≡ b → Named begun image
      by_called true e = elim stands [
        | inl old ↦
            let later : HasBegunFor begun l.rest l.commit = later_or true e in
            named_before begun l.rest l.commit image later
            (λ is. not_both (manifest.newest image) w.first.gate.place (slot_place last.number) l.way.begins.ready.slots (seals later.newest l.rest later.its later.unfinished is).in_force old.in_force)
            (named_last last its l.rest image l.before old stand)
        | inr new ↦ named_new last its w calls begun image l few (later_or true e) new stand
      ]
      by_called false e = elim stands [
        | inl old ↦ subst (λ (x : List BegunCommit). Named x image) (sym (later_or false e)) (named_last last its l.rest image l.before old stand)
        | inr new ↦
            let was = gates w.first opened l.way.before (slot_place last.number) w.answers image l.way.begins (subst (λ (m : List Call). MayLeave opened m image) l.way.made left) e in
            absurd (not_both (manifest.newest image) w.first.gate.place (slot_place last.number) l.way.begins.ready.slots new.in_force was.in_force)
      ]

  pub named_now : StandsUncalled → ((c : BegunCommit) → Good c → c.parts.kind ≡ Full → c.parts.checkpoint.triples ≤ most_triples shape) → (was : Bool) (s : KeeperState) (its : Standing) (w : Writing) (calls : List Call) (begun : List BegunCommit) (image : List ℕ)
      → Holds shape opened first Good was s its w calls begun → SealedStands begun w.first image → MayLeave opened calls image → IsOneInForce was s.last its w.first image → TriplesStand shape s.last.checkpoint its image → Named begun image
  named_now gates fits was s its w calls begun image holds seals left stands stand = elim (either shape opened first Good was s its w calls begun (come_to s) holds) [
    | inl none ↦ named_last s.last its begun image none.1 (subst (λ (b : Bool). IsOneInForce b s.last its w.first image) none.0 stands) stand
    | inr some ↦
        let l = some.1 in
        named_written gates s.last its w calls begun image l (fits l.commit l.good) seals left (subst (λ (b : Bool). IsOneInForce b s.last its w.first image) some.0 stands) stand
  ]

-- ---- a run
-- what is known of each commit whose writes begin
abbrev pub AllGood : Shape → Places → KeeperState → (BegunCommit → Type 0) → List KeeperEvent → Type 0
AllGood shape p opening Good [] = ⊤
AllGood shape p opening Good (event ∷ before) =
    ((c : Commit) → (keeper_run shape p opening before).step ≡ Waits → (keeper_run shape p opening (event ∷ before)).step ≡ Writes → (keeper_run shape p opening (event ∷ before)).commit ≡ Some c → Good (commit_opening (keeper_run shape p opening (event ∷ before)) c))
    × AllGood shape p opening Good before

module _ (shape : Shape) (p : Places) (opened : List ℕ) (opening : KeeperState) (first : BegunCommit) (Good : BegunCommit → Type 0) (told : IsToldBy shape p opened opening) (as_last : IsAsLast opening.last first) (done : first.is_finished ≡ true) where
  first_last : IsLast shape opened first Good opening.last (standing_opened shape opened opening.last) (first ∷ [])
  first_last = record {
    newest = first;
    older = [];
    list = refl;
    finished = done;
    as_last = as_last;
    slot = inr (refl, ap (λ (v : Version). slot_in opened (slot_place v)) (sym as_last.number));
    triples = inr (sym as_last.checkpoint, refl);
    each = λ d is. each_begun shape opened first Good first [] d (inr refl) (λ e none. absurd none) is;
  }

  at_rest : (step : Keeping) → is_in_hand step ≡ false → At shape opened first Good false opening (standing_opened shape opened opening.last) (record { first = opening.writes; answers = [] }) [] (first ∷ []) step
  at_rest (Ended its) idle = first_last
  at_rest step idle = cc

  begins_so : (event : KeeperEvent) (before : List KeeperEvent) (step : Keeping) → AreNumbersInTurn shape p opening (event ∷ before) → AllGood shape p opening Good (event ∷ before) → (keeper_run shape p opening before).step ≡ step
      → BeginsAt shape opened first Good p (keeper_run shape p opening before) (calls_made shape p opening before) event step
  unfolding keeper_run calls_made
  begins_so event before Waits turn good e = λ writes. record { begins = run_begins shape p opened opening told before event turn e writes; good = λ c found. good.0 c e writes found }
  begins_so event before step turn good e = tt

  pub run_holds : (events : List KeeperEvent) → AreNumbersInTurn shape p opening events → AllGood shape p opening Good events
      → Holds shape opened first Good (is_writing shape p opening events) (keeper_run shape p opening events) (standing shape p opened opening events) (writing shape p opening events) (calls_made shape p opening events) (commits_begun shape p opening (first ∷ []) events)
  unfolding keeper_run is_writing standing writing calls_made commits_begun AreNumbersInTurn
  run_holds [] turn good =
      subst (λ (rests : Bool). At shape opened first Good false opening (standing_opened shape opened opening.last) (record { first = opening.writes; answers = [] }) [] (first ∷ []) (if rests then Writes else opening.step)) (sym told.is_opened.none_rest)
      (at_rest opening.step told.is_opened.none_in_hand)
  run_holds (event ∷ before) turn good =
      event_on shape opened first Good p (keeper_run shape p opening before) (is_writing shape p opening before) (standing shape p opened opening before) (writing shape p opening before) (calls_made shape p opening before)
      (commits_begun shape p opening (first ∷ []) before) event (λ rests. run_rests shape p opening before told.is_opened rests) (run_holds before turn.1 good.1) (begins_so event before (keeper_run shape p opening before).step turn good refl)
