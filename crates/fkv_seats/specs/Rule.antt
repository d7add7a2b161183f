-- The rule of a table whose words are those of a run over one list of events, and what each seat knows of that list.
use Rattle.std.specs.Prelude.{◌≡◌, ◌+◌, ◌*◌, ◌<◌, ◌≤◌, ◌==◌, if◌then◌else◌, ◌||◌, nat_le, ⊤, ℕ, Bool, true, false, List, [], ◌∷◌, ◌++◌, length, Option, Some, None, slice_get, slice_set, slice_index_or}
use mathlib.Core.Option.{none, some}
use lib.ListN.{get_elem?}
use Rattle.atomic_table.specs.Table.{State, Me, rest}
use Rattle.fkv_seats.specs.declared.views.Role.{Role}
use Rattle.fkv_seats.specs.declared.views.Role.TheVariants.{Rest, Sits, Both, Spent}
use Rattle.fkv_seats.specs.declared.views.View.{View}
use Rattle.fkv_seats.specs.declared.held.Held.{Held}
use Rattle.fkv_seats.specs.declared.held.Held.TheVariants.{Drain}

-- an actor is the session of a number, or the keeper; whether a seat speaks for it
abbrev pub speaks : Role → Option ℕ → Bool
speaks (Rest from) None = true
speaks (Rest from) (Some number) = nat_le from number
speaks (Sits own) None = false
speaks (Sits own) (Some number) = number == own
speaks (Both first second) None = false
speaks (Both first second) (Some number) = number == first || number == second
speaks Spent actor = false

-- Of a seat for many the new seat gets the first session, and of a seat for two the second one.
abbrev pub left_role : Role → Role
left_role (Rest from) = Rest (from + 1)
left_role (Sits own) = Sits own
left_role (Both first second) = Sits first
left_role Spent = Spent

abbrev pub right_role : Role → Role
right_role (Rest from) = Sits from
right_role (Sits own) = Spent
right_role (Both first second) = Sits second
right_role Spent = Spent

-- A seat for two speaks for two that differ.
abbrev pub AreApart : Role → Type 0
AreApart (Both first second) = ¬ (first ≡ second)
AreApart role = ⊤

abbrev pub number_of : Role → ℕ
number_of (Sits own) = own
number_of role = 0

-- whose desk a seat sits at; a seat for two sits at the first one's
abbrev pub desk_of : Role → Option ℕ
desk_of (Rest from) = Some from
desk_of (Sits own) = Some own
desk_of (Both first second) = Some first
desk_of Spent = None

-- So many slots are from one desk to the next. Each call of a session writes its desk, so two desks in one line of the cache would slow each other down. Slots of
-- 32 bytes or more that lie three apart share no line of 64 bytes, wherever the first one begins.
abbrev pub desk_stride : ℕ
desk_stride = 3

-- the slot that is a number's desk, behind the slots of actions
abbrev pub desk_slot : ℕ → ℕ → ℕ
desk_slot slots number = slots + desk_stride * number

-- what is left of a seat when the new one is cut off sits at its desk
abbrev pub KeepsDesk : Role → Type 0
KeepsDesk role = desk_of (left_role role) ≡ desk_of role

-- a world of events, as a table shows it
pub record Plane (W E A K : Type 0) : Type 0 where
  pub opening : K → W
  pub happens : W → E → W
  pub words : W → List ℕ
  pub actions : W → List (Option A)
  -- whose event it is, and which slot it moves the action of
  pub actor : E → Option ℕ
  pub names : W → E → Option ℕ
  -- whether it may stand in the list
  pub allowed : E → Bool
  -- the slots below it are those of actions
  pub slots : ℕ

abbrev pub flat : {A : Type 0} → Option (Option A) → Option A
flat None = None
flat (Some its) = its

abbrev pub action_in : {A : Type 0} → List (Option A) → ℕ → Option A
action_in actions k = flat (slice_get actions k)

module _ {W E A K : Type 0} (p : Plane W E A K) where
  -- the world after a list of events, the newest first
  unfoldable pub led : W → List E → W
  led w [] = w
  led w (e ∷ es) = p.happens (led w es) e

  -- none of these is an event of whom the seat speaks for
  abbrev pub Quiet : Role → List E → Type 0
  Quiet role [] = ⊤
  Quiet role (e ∷ es) = (speaks role (p.actor e) ≡ false) × Quiet role es

  -- all of them are
  abbrev pub AreOwn : Role → List E → Type 0
  AreOwn role [] = ⊤
  AreOwn role (e ∷ es) = (speaks role (p.actor e) ≡ true) × AreOwn role es

  -- each of them may stand in the list
  abbrev pub AreAllowed : List E → Type 0
  AreAllowed [] = ⊤
  AreAllowed (e ∷ es) = (p.allowed e ≡ true) × AreAllowed es

  -- none of them is the actor's
  abbrev pub NoneOf : Option ℕ → List E → Type 0
  NoneOf actor [] = ⊤
  NoneOf actor (e ∷ es) = ¬ (p.actor e ≡ actor) × NoneOf actor es

  -- the one list of events is a beginning of the other; it is its end, since the newest stand first
  abbrev pub IsSeenBy : List E → List E → Type 0
  IsSeenBy less more = (later : List E) × (more ≡ later ++ less)

  -- The one list goes on from the other with events of others alone, which may stand there.
  pub record GoesOn (role : Role) (less more : List E) : Type 0 where
    pub between : List E
    pub whole : more ≡ between ++ less
    pub quiet : Quiet role between
    pub allowed : AreAllowed between

  abbrev pub HasMet : Option (Role × List E) → List E → Type 0
  HasMet None seen = ⊤
  HasMet (Some its) seen = GoesOn its.0 its.1 seen

  -- the newest event that the view has seen is its own, and has moved the action of this slot
  pub record HasTaken (w : W) (v : View E K) (k : ℕ) : Type 0 where
    pub event : E
    pub before : List E
    pub seen : v.seen ≡ event ∷ before
    pub own : speaks v.role (p.actor event) ≡ true
    pub names : p.names (led w before) event ≡ Some k

  -- A view has seen a beginning of the events, behind which there is none of its own. Who had seen less, and was made one with it, had seen a beginning of that,
  -- behind which there is none of his.
  pub record Fits (w : W) (events : List E) (v : View E K) : Type 0 where
    pub later : List E
    pub whole : events ≡ later ++ v.seen
    pub quiet : Quiet v.role later
    pub hand : (k : ℕ) → v.hand ≡ Some k → HasTaken w v k
    pub met : HasMet v.met v.seen

  pub record IsOut (views : List (View E K)) (k : ℕ) : Type 0 where
    pub id : ℕ
    pub view : View E K
    pub seated : get_elem? views id ≡ some view
    pub hand : view.hand ≡ Some k

  pub record IsDeskOut (views : List (View E K)) (number : ℕ) : Type 0 where
    pub id : ℕ
    pub view : View E K
    pub seated : get_elem? views id ≡ some view
    pub whose : desk_of view.role ≡ Some number
    pub desk : view.desk ≡ true

  -- One list of events has a run that gives the words, the actions at home and each view. Each event of it may stand there.
  pub record Ruled (key : K) (s : State (Held A E) (View E K)) : Type 0 where
    pub events : List E
    pub allowed : AreAllowed events
    pub words : s.words ≡ p.words (led (p.opening key) events)
    pub deep : p.slots ≤ length s.homes
    pub homes : (k : ℕ) (x : Held A E) → k < p.slots → get_elem? s.homes k ≡ some (some x) → x ≡ Drain (action_in (p.actions (led (p.opening key) events)) k)
    pub each : (id : ℕ) (v : View E K) → get_elem? s.views id ≡ some v → Fits (p.opening key) events v
    pub apart : (id other : ℕ) (v u : View E K) (actor : Option ℕ) → get_elem? s.views id ≡ some v → get_elem? s.views other ≡ some u
        → speaks v.role actor ≡ true → speaks u.role actor ≡ true → id ≡ other
    pub out : (k : ℕ) → k < p.slots → get_elem? s.homes k ≡ some none → IsOut s.views k
    pub desks : (number : ℕ) → get_elem? s.homes (desk_slot p.slots number) ≡ some none → IsDeskOut s.views number

  -- What holds of the world's slots: an event names one of the slots that there are; it changes no other; and one whose action an actor
  -- has moved is named by nobody else before that actor's next event.
  pub record SlotFacts (w : W) : Type 0 where
    pub within : (es : List E) (e : E) (k : ℕ) → p.names (led w es) e ≡ Some k → k < p.slots
    pub others : (es : List E) (e : E) (k : ℕ) → ¬ (p.names (led w es) e ≡ Some k) → action_in (p.actions (led w (e ∷ es))) k ≡ action_in (p.actions (led w es)) k
    pub apart : (later before : List E) (e its : E) (k : ℕ) → p.names (led w before) e ≡ Some k → NoneOf (p.actor e) later → ¬ (p.actor its ≡ p.actor e)
        → ¬ (p.names (led w (later ++ e ∷ before)) its ≡ Some k)

  -- these events change no word and no action
  pub record AreStarts (w : W) (own : List E) : Type 0 where
    pub words : (es : List E) → p.words (led w (own ++ es)) ≡ p.words (led w es)
    pub actions : (es : List E) → p.actions (led w (own ++ es)) ≡ p.actions (led w es)

  -- what a seat has in hand beside its desk
  abbrev pub base : Option ℕ → List (ℕ × Held A E) → List (ℕ × Held A E)
  base None c = c
  base (Some k) c = rest c

  abbrev pub HandFits : W → List E → Option ℕ → List (ℕ × Held A E) → Type 0
  HandFits w seen None c = ⊤
  HandFits w seen (Some k) c = c ≡ (k, Drain (action_in (p.actions (led w seen)) k)) ∷ rest c

  -- what a seat has in hand after a step, where it had these slots before
  abbrev pub Carries : W → List E → Option ℕ → List (ℕ × Held A E) → List (ℕ × Held A E) → Type 0
  Carries w before None c c' = c' ≡ c
  Carries w before (Some k) c c' = c' ≡ (k, Drain (action_in (p.actions (led w before)) k)) ∷ c

  -- What a step tells: it has put this event at the end, behind own starts and what others have done since.
  pub record Stepped (w : W) (v : View E K) (c : List (ℕ × Held A E)) (i : ℕ) (own : List E) (e : E) (n : ℕ) (m : Me (Held A E) (View E K)) : Type 0 where
    pub others : List E
    pub quiet : Quiet v.role others
    pub allowed : AreAllowed others
    pub seen : m.0.seen ≡ e ∷ (own ++ (others ++ v.seen))
    pub about : m.0.about ≡ v.about
    pub role : m.0.role ≡ v.role
    pub desk : m.0.desk ≡ v.desk
    pub found : n ≡ slice_index_or (p.words (led w (others ++ v.seen))) i 0
    pub hand : m.0.hand ≡ p.names (led w (own ++ (others ++ v.seen))) e
    pub carries : Carries w (own ++ (others ++ v.seen)) m.0.hand (base v.hand c) m.1

  -- the view of the first seat, which speaks for all
  abbrev pub first_view : K → View E K
  first_view key = record { about = Some key; role = Rest 0; seen = []; hand = None; desk = false; met = None }

  abbrev pub left_view : View E K → View E K
  left_view v = record { about = v.about; role = left_role v.role; seen = v.seen; hand = v.hand; desk = v.desk; met = v.met }

  abbrev pub right_view : View E K → View E K
  right_view v = record { about = v.about; role = right_role v.role; seen = v.seen; hand = None; desk = false; met = v.met }

  abbrev pub longer : List E → List E → List E
  longer xs ys = if nat_le (length xs) (length ys) then ys else xs

  -- which of two has seen less, and what
  abbrev pub behind : View E K → View E K → Role × List E
  behind v u = if nat_le (length v.seen) (length u.seen) then (v.role, v.seen) else (u.role, u.seen)

  abbrev pub both_view : View E K → View E K → View E K
  both_view v u = record { about = v.about; role = Both (number_of v.role) (number_of u.role); seen = longer v.seen u.seen; hand = None; desk = v.desk; met = Some (behind v u) }

  abbrev pub spent_view : View E K
  spent_view = record { about = None; role = Spent; seen = []; hand = None; desk = false; met = None }

  -- a view whose seat sits at its desk, or doesn't
  abbrev pub with_desk : View E K → Bool → View E K
  with_desk v desk = record { about = v.about; role = v.role; seen = v.seen; hand = v.hand; desk = desk; met = v.met }

  -- What sitting down tells: the desk's slot is the newest in hand, and the seat has seen what who was made one with it had seen.
  pub record SatDown (number : ℕ) (v : View E K) (c : List (ℕ × Held A E)) (m : Me (Held A E) (View E K)) : Type 0 where
    pub view : m.0 ≡ with_desk v true
    pub note : Held A E
    pub desk : m.1 ≡ (desk_slot p.slots number, note) ∷ c
    pub met : HasMet v.met v.seen

  -- what getting up tells: the desk's slot, which was the newest in hand, has gone home
  abbrev pub GotUp : View E K → List (ℕ × Held A E) → Me (Held A E) (View E K) → Type 0
  GotUp v c m = m ≡ (with_desk v false, c)

  -- what a step's word goes through, whatever others have done before it
  abbrev pub Changes : K → View E K → List E → E → ℕ → (ℕ → ℕ) → Type 0
  Changes key v own e i f = (later : List E) → Quiet v.role later
      → p.words (led (p.opening key) (e ∷ (own ++ (later ++ v.seen)))) ≡ slice_set (p.words (led (p.opening key) (later ++ v.seen))) i (f (slice_index_or (p.words (led (p.opening key) (later ++ v.seen))) i 0))
