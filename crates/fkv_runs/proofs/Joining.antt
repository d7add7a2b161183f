-- One line more behind the lines of pieces.
use Prim.Native.Nat.{zero}
use Rattle.std.proofs.Common.{◌≡◌, ◌≢◌, ℕ, ◌+◌, ◌<◌, ◌≤◌, suc, Bool, true, false, List, [], ◌∷◌, ◌++◌, map, length, set, take, refl, sym, ap, ◌∙◌, append_assoc, append-nil, arith, Some, None, subst, get_or}
use Rattle.std.specs.Prelude.{slice_get}
use Rattle.std.specs.List.{flat_map}
use Rattle.std.proofs.lemmas.Grind.{flat_map-append}
use Rattle.std.proofs.lemmas.List.{set-get_or, take_more}
use Rattle.std.proofs.lemmas.Option.{get_or_from_slice_get, slice_get_cases, slice_get_within}
use Rattle.fkv_lines.specs.declared.scripts.Line.{Line}
use Rattle.fkv_playing.specs.declared.calls.ActorCall.{ActorCall}
use Rattle.fkv_runs.specs.declared.pieces.Piece.{Piece}
use Rattle.fkv_runs.specs.declared.pieces.Piece.TheVariants.{Group, Finish, Crash, CrashAt, FailAt}
use Rattle.fkv_runs.specs.Pieces.{ArePieces, IsAlone, is_group, line_of, lines_of}

pub not_both : (b : Bool) → b ≡ true → b ≡ false → ⊥
not_both b is is_not = cc

-- no two groups are neighbours
abbrev AreApart : List Piece → Type 0
AreApart pieces = (at : ℕ) (piece next : Piece) → slice_get pieces at ≡ Some piece → slice_get pieces (suc at) ≡ Some next → is_group piece ≡ true → is_group next ≡ false

-- the last of these pieces is no group
abbrev pub EndsApart : List Piece → Type 0
EndsApart pieces = (at : ℕ) (last : Piece) → slice_get pieces at ≡ Some last → slice_get pieces (suc at) ≡ None → is_group last ≡ false

-- behind one that is no group anything may stand, and behind a group no other one
after_one : (first second : Piece) → (is_group second ≡ true → is_group first ≡ false) → is_group first ≡ true → is_group second ≡ false
after_one first (Group calls) ends group = absurd (not_both (is_group first) group (ends refl))
after_one first Finish ends group = refl
after_one first Crash ends group = refl
after_one first (CrashAt count) ends group = refl
after_one first (FailAt count) ends group = refl

apart_more : (pieces : List Piece) (more : Piece) → AreApart pieces → (is_group more ≡ true → EndsApart pieces) → AreApart (pieces ++ more ∷ [])
apart_more [] more apart ends zero piece next here there group = cc
apart_more [] more apart ends (suc at) piece next here there group = cc
apart_more (first ∷ []) more apart ends zero piece next here there group =
    let behind : is_group first ≡ true → is_group more ≡ false = after_one first more (λ is. ends is 0 first refl refl) in
    let same : first ≡ piece = cc in
    let next_same : more ≡ next = cc in
    sym (ap is_group next_same) ∙ behind (ap is_group same ∙ group)
apart_more (first ∷ []) more apart ends (suc at) piece next here there group = cc
apart_more (first ∷ second ∷ rest) more apart ends zero piece next here there group = apart 0 piece next here there group
apart_more (first ∷ second ∷ rest) more apart ends (suc at) piece next here there group =
    apart_more (second ∷ rest) more (λ n. apart (suc n)) (λ is n. ends is (suc n)) at piece next here there group

-- what holds of each piece, and of one more
all_more : (Its : Piece → Type 0) (pieces : List Piece) (more : Piece) → ((at : ℕ) (piece : Piece) → slice_get pieces at ≡ Some piece → Its piece) → Its more → (at : ℕ) (piece : Piece) → slice_get (pieces ++ more ∷ []) at ≡ Some piece → Its piece
all_more Its [] more all its zero piece here = let same : more ≡ piece = cc in subst Its same its
all_more Its [] more all its (suc at) piece here = cc
all_more Its (first ∷ rest) more all its zero piece here = all 0 piece here
all_more Its (first ∷ rest) more all its (suc at) piece here = all_more Its rest more (λ n. all (suc n)) its at piece here

-- and in the place of one
all_in_place : (Its : Piece → Type 0) (pieces : List Piece) (at : ℕ) (more : Piece) → ((n : ℕ) (piece : Piece) → slice_get pieces n ≡ Some piece → Its piece) → Its more → (n : ℕ) (piece : Piece) → slice_get (set pieces at more) n ≡ Some piece → Its piece
all_in_place Its [] at more all its n piece here = cc
all_in_place Its (first ∷ rest) zero more all its zero piece here = let same : more ≡ piece = cc in subst Its same its
all_in_place Its (first ∷ rest) zero more all its (suc n) piece here = all (suc n) piece here
all_in_place Its (first ∷ rest) (suc at) more all its zero piece here = all 0 piece here
all_in_place Its (first ∷ rest) (suc at) more all its (suc n) piece here = all_in_place Its rest at more (λ m. all (suc m)) its n piece here

-- lines with one behind them are some
some_lines : (front its : List Line) (line : Line) → its ≡ front ++ line ∷ [] → its ≢ []
some_lines [] its line same none = let both : [] ≡ line ∷ [] = sym none ∙ same in cc
some_lines (first ∷ rest) its line same none = let both : [] ≡ first ∷ (rest ++ line ∷ []) = sym none ∙ same in cc

abbrev HasLine : Piece → Type 0
HasLine piece = lines_of piece ≢ []

-- behind pieces one of this line alone
pub piece_more : (interleaved : Bool) (lines : List Line) (line : Line) (pieces : List Piece) (more : Piece) → ArePieces interleaved lines pieces → lines_of more ≡ line ∷ [] → (interleaved ≡ true → is_group more ≡ true → EndsApart pieces)
    → (interleaved ≡ false → IsAlone more) → ArePieces interleaved (lines ++ line ∷ []) (pieces ++ more ∷ [])
piece_more interleaved lines line pieces more are its ends alone = record {
  joined = flat_map-append lines_of pieces (more ∷ []) ∙ ap (λ (front : List Line). front ++ (lines_of more ++ [])) are.joined ∙ ap (λ (back : List Line). lines ++ back) (append-nil (lines_of more) ∙ its);
  apart = λ is. apart_more pieces more (are.apart is) (ends is);
  alone = λ is. all_more IsAlone pieces more (are.alone is) (alone is);
  filled = all_more HasLine pieces more are.filled (some_lines [] (lines_of more) line its);
}

alone_mark : (piece : Piece) → is_group piece ≡ false → IsAlone piece
alone_mark (Group calls) mark = cc
alone_mark Finish mark = tt
alone_mark Crash mark = tt
alone_mark (CrashAt count) mark = tt
alone_mark (FailAt count) mark = tt

-- behind pieces a mark
pub mark_more : (interleaved : Bool) (lines : List Line) (line : Line) (pieces : List Piece) (mark : Piece) → ArePieces interleaved lines pieces → lines_of mark ≡ line ∷ [] → is_group mark ≡ false → ArePieces interleaved (lines ++ line ∷ []) (pieces ++ mark ∷ [])
mark_more interleaved lines line pieces mark are its is = piece_more interleaved lines line pieces mark are its (λ _ group. absurd (not_both (is_group mark) group is)) (λ _. alone_mark mark is)

-- where the last piece is no group, a group may follow
pub ends_apart : (pieces : List Piece) (at : ℕ) (last : Piece) → slice_get pieces at ≡ Some last → length pieces ≤ suc at → is_group last ≡ false → EndsApart pieces
ends_apart pieces at last here past mark n piece there none =
    let within = slice_get_within pieces n piece there in
    let within_too = slice_get_within pieces at last here in
    let same : n ≡ at = grind (arith, slice_get_cases pieces (suc n)) in
    let one : Some piece ≡ Some last = sym there ∙ ap (slice_get pieces) same ∙ here in
    let one_piece : piece ≡ last = cc in
    ap is_group one_piece ∙ mark

-- in place of a piece one that is a group as it was one
in_place : (pieces : List Piece) (at : ℕ) (last joined : Piece) → slice_get pieces at ≡ Some last → is_group last ≡ is_group joined → (n : ℕ) (piece : Piece) → slice_get (set pieces at joined) n ≡ Some piece
    → (was : Piece) × (slice_get pieces n ≡ Some was) × (is_group was ≡ is_group piece)
in_place [] at last joined here same n piece there = cc
in_place (first ∷ rest) zero last joined here same zero piece there =
    let one : first ≡ last = cc in
    let two : joined ≡ piece = cc in
    (first, refl, ap is_group one ∙ same ∙ ap is_group two)
in_place (first ∷ rest) zero last joined here same (suc n) piece there = (piece, there, refl)
in_place (first ∷ rest) (suc at) last joined here same zero piece there = (piece, there, refl)
in_place (first ∷ rest) (suc at) last joined here same (suc n) piece there = in_place rest at last joined here same n piece there

apart_in_place : (pieces : List Piece) (at : ℕ) (last joined : Piece) → slice_get pieces at ≡ Some last → is_group last ≡ is_group joined → AreApart pieces → AreApart (set pieces at joined)
apart_in_place pieces at last joined here same apart n piece next there then group =
    let this = in_place pieces at last joined here same n piece there in
    let that = in_place pieces at last joined here same (suc n) next then in
    sym that.2 ∙ apart n this.0 that.0 this.1 that.1 (this.2 ∙ group)

joined_in_place : (pieces : List Piece) (at : ℕ) (last joined : Piece) (line : Line) → slice_get pieces at ≡ Some last → length pieces ≤ suc at → lines_of joined ≡ lines_of last ++ line ∷ []
    → flat_map lines_of (set pieces at joined) ≡ flat_map lines_of pieces ++ line ∷ []
joined_in_place [] at last joined line here past its = cc
joined_in_place (first ∷ []) zero last joined line here past its =
    let one : last ≡ first = cc in
    append-nil (lines_of joined) ∙ its ∙ ap (λ (piece : Piece). lines_of piece ++ line ∷ []) one ∙ ap (λ (front : List Line). front ++ line ∷ []) (sym (append-nil (lines_of first)))
joined_in_place (first ∷ second ∷ rest) zero last joined line here past its = absurd (omega arith)
joined_in_place (first ∷ rest) (suc at) last joined line here past its =
    ap (λ (back : List Line). lines_of first ++ back) (joined_in_place rest at last joined line here (omega arith) its) ∙ sym (append_assoc (lines_of first) (flat_map lines_of rest) (line ∷ []))

-- the last piece is a group, and is joined by a call
pub call_joined : (interleaved : Bool) (lines : List Line) (line : Line) (pieces : List Piece) (at : ℕ) (last joined : Piece) → interleaved ≡ true → ArePieces interleaved lines pieces → slice_get pieces at ≡ Some last → length pieces ≤ suc at
    → is_group last ≡ true → is_group joined ≡ true → lines_of joined ≡ lines_of last ++ line ∷ [] → ArePieces interleaved (lines ++ line ∷ []) (set pieces at joined)
call_joined interleaved lines line pieces at last joined together are here past group joined_group its = record {
  joined = joined_in_place pieces at last joined line here past its ∙ ap (λ (front : List Line). front ++ line ∷ []) are.joined;
  apart = λ is. apart_in_place pieces at last joined here (group ∙ sym joined_group) (are.apart is);
  alone = λ is. absurd (not_both interleaved together is);
  filled = all_in_place HasLine pieces at joined are.filled (some_lines (lines_of last) (lines_of joined) line its);
}

-- nothing ends with a group
pub ends_nowhere : (pieces : List Piece) → length pieces ≤ 0 → EndsApart pieces
ends_nowhere pieces none n piece there after = let within = slice_get_within pieces n piece there in absurd (omega arith)

-- the last piece is put back
pub put_back : (pieces : List Piece) (at : ℕ) (last back : Piece) → slice_get pieces at ≡ Some last → back ≡ last → set pieces at back ≡ pieces
put_back pieces at last back here same = ap (set pieces at) (same ∙ sym (get_or_from_slice_get pieces at last last here)) ∙ set-get_or pieces at last

-- behind pieces a group of one call
pub group_more : (interleaved : Bool) (lines : List Line) (line : Line) (pieces front new : List Piece) (none calls : List ActorCall) (call : ActorCall) (group : Piece)
    → ArePieces interleaved lines pieces → line_of call ≡ line → none ≡ [] → calls ≡ none ++ call ∷ [] → lines_of group ≡ map line_of calls → (length calls ≡ 1 → IsAlone group) → front ≡ pieces → new ≡ front ++ group ∷ []
    → (interleaved ≡ true → EndsApart pieces) → ArePieces interleaved (lines ++ line ∷ []) new
group_more interleaved lines line pieces front new none calls call group are its nothing one grouped alone same is ends =
    let only : calls ≡ call ∷ [] = one ∙ ap (λ (before : List ActorCall). before ++ call ∷ []) nothing in
    let all : new ≡ pieces ++ group ∷ [] = is ∙ ap (λ (before : List Piece). before ++ group ∷ []) same in
    let shown : lines_of group ≡ line ∷ [] = grouped ∙ ap (map line_of) only ∙ ap (λ (it : Line). it ∷ []) its in
    subst (λ (pieces : List Piece). ArePieces interleaved (lines ++ line ∷ []) pieces) (sym all)
    (piece_more interleaved lines line pieces group are shown (λ together _. ends together) (λ _. alone (ap length only)))

-- of the lines so far and the next one are those of one line more
pub so_far : (interleaved : Bool) (lines : List Line) (at : ℕ) (line : Line) (pieces : List Piece) → at < length lines → ArePieces interleaved (take at lines ++ get_or lines at line ∷ []) pieces → ArePieces interleaved (take (at + 1) lines) pieces
so_far interleaved lines at line pieces within are = subst (λ (lines : List Line). ArePieces interleaved lines pieces) (sym (take_more lines at line within)) are
