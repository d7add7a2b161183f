-- Sessions that sit down one after another.
use Rattle.std.proofs.Common.{◌≡◌, ◌∙◌, sym, ap, subst, arith, ⊎_elim, ℕ, ◌<◌, List, [], ◌∷◌, ◌++◌, length, get_or}
use Rattle.std.specs.Prelude.{Some, map}
use Rattle.std.proofs.Math.ListN.{get_or-append}
use Rattle.std.proofs.Math.Seq.{get_or-append_seam}
use Rattle.std.proofs.lemmas.Bool.{cases_lt}
use Rattle.std.proofs.lemmas.List.{get_or-map, length-append}
use Rattle.std.proofs.lemmas.Option.{slice_get_within, slice_get-get_or, get_or_from_slice_get}
use Rattle.fkv_opening.specs.declared.opened_store.Opened.{Opened}
use Rattle.fkv_base.specs.declared.numbers.Serial.{Serial}
use Rattle.fkv_ops.specs.declared.requests.Seen.{Seen}
use Rattle.fkv_keeper.specs.NewKeepers.{ArePlacesOfStore}
use Rattle.fkv_opening.specs.Opening.{point_of}
use Rattle.fkv_session.specs.Sessions.{IsOpened, Sitter}
use Rattle.fkv_core.specs.Openings.{AreOpeningSitters, IsOpeningSeen, IsOpeningSitter}

pub none_sit : (o : Opened) (sitters : List Sitter) → sitters ≡ [] → AreOpeningSitters o sitters
none_sit o sitters none number s found = absurd (omega (arith, ap length none, slice_get_within sitters number s found))

pub one_more_sits : (o : Opened) (sitters : List Sitter) (n : ℕ) (next : Sitter) → length sitters ≡ n → AreOpeningSitters o sitters → IsOpeningSitter o n next → AreOpeningSitters o (sitters ++ next ∷ [])
one_more_sits o sitters n next many so_far its number s found =
    ⊎_elim
    (λ low. let before : number < length sitters = omega (arith, low, many) in
    so_far number s (slice_get-get_or sitters number s before ∙ ap (λ (x : Sitter). Some x) (sym (get_or-append sitters (next ∷ []) s number before) ∙ get_or_from_slice_get all number s s found)))
    (λ high. let same : number ≡ n = omega (arith, high, many, within, length-append sitters (next ∷ [])) in
    let is : s ≡ next = sym (get_or_from_slice_get all number s next found) ∙ ap (λ (i : ℕ). get_or all i next) (same ∙ sym many) ∙ get_or-append_seam sitters next [] next in
    subst (λ (i : ℕ). IsOpeningSitter o i s) (sym same) (subst (λ (x : Sitter). IsOpeningSitter o n x) (sym is) its))
    (cases_lt number n)
  where
    all : List Sitter
    all = sitters ++ next ∷ []

    within : number < length all
    within = slice_get_within all number s found

-- the point of a session in the list
point_there : (o : Opened) (number : ℕ) (points : List Serial) (d : Serial) → points ≡ o.points.items → number < length points → point_of o number ≡ (get_or points number d).0
point_there o number points d same below =
    ap (λ (its : List Serial). get_or (map (λ (it : Serial). it.0) its) number 0) (sym same) ∙ get_or-map (λ (it : Serial). it.0) points number d 0 below

pub sits_down : (o : Opened) (number : ℕ) (seen : Seen) (points : List Serial) (d : Serial) (s : Sitter) → IsOpeningSeen o seen → points ≡ o.points.items → number < length points
    → s.seat.shape ≡ o.shape → s.seat.number ≡ number → ArePlacesOfStore o.shape s.seat.places → s.state.seen ≡ seen → s.state.serial ≡ (get_or points number d).0 → s.state.floor ≡ o.begin → IsOpened s.state → IsOpeningSitter o number s
sits_down o number seen points d s shown same below shape at places saw serial floor opened = record {
  shape = shape;
  at_number = at;
  places = places;
  state = record {
    opened = opened;
    serial = serial ∙ sym (point_there o number points d same below);
    floor = floor;
    saw = subst (λ (it : Seen). IsOpeningSeen o it) (sym saw) shown;
  };
}
