-- After any events, each voice remembers the frets last read, and the page shows the rows of the kept beats, each tied
-- note at the fret that was last read on its string.
use Rattle.std.specs.Prelude.{Option}
use Prim.Native.Nat.{ℕ, zero, suc, ◌<◌}
use native.Mathlib.Omega.{arith}
use mathlib.Core.Path.{◌≡◌, refl, sym, ap, subst, ◌∙◌}
use mathlib.Core.Bool.{Bool, true, false}
use mathlib.Core.List.{List, [], ◌∷◌, ◌++◌, map, map-append, reverse, reverse_aux, reverse_aux-append}
use borrow.Author.Tests.{eqb-true, eqb-false, eq-eqb}
use lib.Dec.{eqb}
use lib.ListN.{length, get_or}
use Rattle.format.specs.declared.Range.{Range}
use Rattle.format.specs.Text.{pick}
use Rattle.tables.specs.Table.{change}
use Rattle.model.specs.declared.RowPlace.{RowPlace}
use Rattle.model.specs.declared.RowKind.TheVariants.{Grace, Beat}
use Rattle.curve.specs.Key.{grace_key}
use Rattle.beat.specs.Beat.{BeatIs}
use Rattle.score.specs.declared.Fretboard.{Fretboard}
use Rattle.score.specs.declared.Part.{Part}
use Rattle.score.specs.declared.Voice.{Voice}
use Rattle.score.specs.Sounding.{Memory, nothing, Sounding, sounding, remember}
use Rattle.score.specs.Members.{Keyed, in_order, position_of, member_of, Graced, graces, grace_member}
use Rattle.score.specs.Rows.{RowIs, rest_row, chord_row, grace_row, grace_rows, beat_row, rows_of}
use Rattle.score.specs.Page.{Walk, Rowing, with_frets, keep_row, keep_rows, running_after, enter_bar, add_beat}
use Rattle.score.specs.Score.{Lists, lists, no_part, voice_of, with_voice, with_running}
use Rattle.tables.proofs.Laws.{length-change}
use Rattle.told.specs.Told.{TrackTold, BeatTold, Event, enters, plays}
use Rattle.refine.proofs.Shown.{pick_both}
use Rattle.teacher.specs.Teacher.{of_voice, board_in, last_read_in, Seen, seen, SeenRow}
use Rattle.teacher.proofs.Memory.{all_read, all_read_at, other_voice, own_voice}
use Rattle.teacher.proofs.Rows.{seen_is, Stands, keep_rows_stand}

-- ---- what is seen of the rows of a beat
abbrev pub seen_note : Fretboard → Keyed → Seen
seen_note board x =
    record {
      key = x.key;
      position = position_of board x.sound.string x.sound.fret;
      tied = x.sound.note.read.tie;
    }

abbrev pub seen_grace : Fretboard → Graced → Seen
seen_grace board g =
    record {
      key = grace_key g.note.key g.note.sound.note.read.fret g.grace.fret;
      position = position_of board g.note.sound.string g.grace.fret;
      tied = false;
    }

abbrev pub chord_seen : RowPlace → Fretboard → List Keyed → SeenRow
chord_seen place board xs = record { place = place; kind = Beat; members = map (seen_note board) xs }

abbrev pub graces_seen : RowPlace → Fretboard → List Graced → List SeenRow
graces_seen place board [] = []
graces_seen place board (g ∷ gs) = record { place = place; kind = Grace; members = map (seen_grace board) (g ∷ gs) } ∷ []

abbrev pub rows_seen : RowPlace → Fretboard → List Keyed → List SeenRow
rows_seen place board xs = graces_seen place board (graces xs) ++ (chord_seen place board xs ∷ [])

map_twice : {A B C : Type 0} (f : B → C) (g : A → B) (h : A → C) → ((a : A) → f (g a) ≡ h a) → (xs : List A)
    → map f (map g xs) ≡ map h xs
map_twice f g h is [] = refl
map_twice f g h is (x ∷ xs) = rw (is x, map_twice f g h is xs)

module _ (place : RowPlace) (board : Fretboard) (flat : Bool) where
  note_is : (x : Keyed) → seen (member_of board flat x) ≡ seen_note board x
  unfolding member_of
  note_is x = refl

  grace_is : (g : Graced) → seen (grace_member board flat g) ≡ seen_grace board g
  unfolding grace_member
  grace_is g = refl

  graces_seen_lem : (beat : Range) (gs : List Graced) → map seen_is (grace_rows place board flat beat gs) ≡ graces_seen place board gs
  unfolding grace_row
  graces_seen_lem beat [] = refl
  graces_seen_lem beat (g ∷ gs) = rw (grace_is g, map_twice seen (grace_member board flat) (seen_grace board) grace_is gs)

  chord_seen_lem : (running : ℕ) (b : BeatIs) (xs : List Keyed)
      → seen_is (beat_row place board flat running b xs) ≡ chord_seen place board xs
  unfolding rest_row chord_row
  chord_seen_lem running b [] = refl
  chord_seen_lem running b (x ∷ xs) = rw (note_is x, map_twice seen (member_of board flat) (seen_note board) note_is xs)

  rows_seen_lem : (running : ℕ) (b : BeatIs) (xs : List Keyed)
      → map seen_is (rows_of place board flat running b xs) ≡ rows_seen place board xs
  unfolding rows_of
  rows_seen_lem running b xs =
      map-append seen_is (grace_rows place board flat b.range (graces xs)) (beat_row place board flat running b xs ∷ [])
      ∙ rw (graces_seen_lem b.range (graces xs), chord_seen_lem running b xs)

-- ---- the page that the events make, the latest first
abbrev pub place_of : BeatTold → RowPlace
place_of b = record { bar = b.bar; track = b.track; voice = b.voice }

module _ (tracks : List TrackTold) where
  -- the notes of a beat, from the lowest key up, each at its fret
  abbrev pub notes_of : BeatTold → List Event → List Keyed
  notes_of b earlier =
      let board : Fretboard = board_in tracks b.track in
      in_order board (sounding board (all_read board.strings.count b.track b.voice earlier) b.beat)

  abbrev pub graces_read : BeatTold → List Event → List SeenRow
  graces_read b earlier = graces_seen (place_of b) (board_in tracks b.track) (graces (notes_of b earlier))

  abbrev pub chord_read : BeatTold → List Event → SeenRow
  chord_read b earlier = chord_seen (place_of b) (board_in tracks b.track) (notes_of b earlier)

  abbrev pub rows_read : BeatTold → List Event → List SeenRow
  rows_read b earlier = graces_read b earlier ++ (chord_read b earlier ∷ [])

  abbrev pub page_of : List Event → List SeenRow
  page_of [] = []
  page_of (enters bar ∷ earlier) = page_of earlier
  page_of (plays b ∷ earlier) = pick b.beat.head.kept (page_of earlier ++ rows_read b earlier) (page_of earlier)

  pub page_more : (b : BeatTold) (earlier : List Event) → b.beat.head.kept ≡ true
      → page_of (plays b ∷ earlier) ≡ page_of earlier ++ rows_read b earlier
  page_more b earlier e = ap (λ t. pick t (page_of earlier ++ rows_read b earlier) (page_of earlier)) e

  pub page_same : (b : BeatTold) (earlier : List Event) → b.beat.head.kept ≡ false
      → page_of (plays b ∷ earlier) ≡ page_of earlier
  page_same b earlier e = ap (λ t. pick t (page_of earlier ++ rows_read b earlier) (page_of earlier)) e

  -- the rows of a beat said from the latest back
  pub rows_back : (b : BeatTold) (earlier : List Event) (before : List SeenRow)
      → reverse_aux (rows_read b earlier) before ≡ chord_read b earlier ∷ reverse_aux (graces_read b earlier) before
  rows_back b earlier before = reverse_aux-append (graces_read b earlier) (chord_read b earlier ∷ []) before

  pub page_back : (b : BeatTold) (earlier : List Event) → b.beat.head.kept ≡ true
      → reverse (page_of (plays b ∷ earlier)) ≡ reverse_aux (rows_read b earlier) (reverse (page_of earlier))
  page_back b earlier e = ap reverse (page_more b earlier e) ∙ reverse_aux-append (page_of earlier) (rows_read b earlier) []

-- ---- one part among others
module _ {A : Type 0} (g : A → A) (d : A) where
  change_there : (es : List A) (i : ℕ) → i < length es → get_or (change g es i) i d ≡ g (get_or es i d)
  change_there [] i h = absurd (omega arith)
  change_there (a ∷ es) zero h = refl
  change_there (a ∷ es) (suc i) h = change_there es i (omega arith)

  change_other : (es : List A) (i j : ℕ) → (i ≡ j → ⊥) → get_or (change g es i) j d ≡ get_or es j d
  change_other [] i j h = refl
  change_other (a ∷ es) zero zero h = absurd (h refl)
  change_other (a ∷ es) zero (suc j) h = refl
  change_other (a ∷ es) (suc i) zero h = refl
  change_other (a ∷ es) (suc i) (suc j) h = change_other es i j (λ e. h (ap suc e))

  change_kept : {B : Type 0} (f : A → B) → ((a : A) → f (g a) ≡ f a) → (es : List A) (i j : ℕ)
      → f (get_or (change g es i) j d) ≡ f (get_or es j d)
  change_kept f same [] i j = refl
  change_kept f same (a ∷ es) zero zero = same a
  change_kept f same (a ∷ es) zero (suc j) = refl
  change_kept f same (a ∷ es) (suc i) zero = refl
  change_kept f same (a ∷ es) (suc i) (suc j) = change_kept f same es i j

-- ---- a voice among two
voice_running : (n v : ℕ) (p : Part) → voice_of v (with_running n p) ≡ voice_of v p
voice_running n zero p = refl
voice_running n (suc v) p = refl

voice_there : (v : ℕ) (x : Voice) (p : Part) → voice_of v (with_voice v x p) ≡ x
voice_there zero x p = refl
voice_there (suc v) x p = refl

voice_other : (v u : ℕ) (x : Voice) (p : Part) → v < 2 → u < 2 → (v ≡ u → ⊥) → voice_of u (with_voice v x p) ≡ voice_of u p
voice_other zero zero x p h k ne = absurd (ne refl)
voice_other zero (suc u) x p h k ne = refl
voice_other (suc v) zero x p h k ne = refl
voice_other (suc v) (suc u) x p h k ne = absurd (ne (omega arith))

board_voice : (v : ℕ) (x : Voice) (p : Part) → (with_voice v x p).board ≡ p.board
board_voice zero x p = refl
board_voice (suc v) x p = refl

keep_rows_frets : (rs : List RowIs) (w : Rowing Lists) → (keep_rows lists rs w).voice.frets ≡ w.voice.frets
unfolding keep_row
keep_rows_frets [] w = refl
keep_rows_frets (r ∷ rs) w = keep_rows_frets rs (keep_row lists r w)

-- ---- after the events es, the latest first
pub record Walked (tracks : List TrackTold) (es : List Event) (w : Walk Lists) : Type 0 where
  pub parts : length w.parts ≡ length tracks
  pub board : (t : ℕ) → (get_or w.parts t no_part).board ≡ board_in tracks t
  pub frets : (t v : ℕ) → t < length tracks → v < 2
      → (voice_of v (get_or w.parts t no_part)).frets ≡ all_read (board_in tracks t).strings.count t v es
  pub stands : Stands w.rows w.members w.tally.kept.members (page_of tracks es)

-- the memory law, string by string
pub remembers_read : (tracks : List TrackTold) (es : List Event) (w : Walk Lists) → Walked tracks es w
    → (track voice string : ℕ) → track < length tracks → voice < 2 → string < 7
    → (get_or (voice_of voice (get_or w.parts track no_part)).frets string nothing)
    ≡ last_read_in tracks track voice string es
remembers_read tracks es w f track voice string h k seven =
    ap (λ (m : Memory). get_or m string nothing) (f.frets track voice h k)
    ∙ all_read_at (board_in tracks track).strings.count track voice es string seven

pub enter_walked : (tracks : List TrackTold) (es : List Event) (bar : ℕ) (w : Walk Lists) → Walked tracks es w
    → Walked tracks (enters bar ∷ es) (enter_bar lists bar w)
unfolding enter_bar
enter_walked tracks es bar w f = record { parts = f.parts; board = f.board; frets = f.frets; stands = f.stands }

module _ (tracks : List TrackTold) (es : List Event) (b : BeatTold) (w : Walk Lists) (f : Walked tracks es w)
    (there : b.track < length tracks) (few : b.voice < 2) where
  abbrev part : Part
  part = get_or w.parts b.track no_part

  abbrev own : Fretboard
  own = board_in tracks b.track

  abbrev memory : Voice
  memory = voice_of b.voice part

  abbrev heard : List Sounding
  heard = sounding part.board memory.frets b.beat

  abbrev xs : List Keyed
  xs = in_order part.board heard

  abbrev before : Rowing Lists
  before =
      record {
        rows = w.rows;
        members = w.members;
        points = w.points;
        kept = w.tally.kept;
        voice = with_frets memory (remember memory.frets heard);
      }

  abbrev rs : List RowIs
  rs = rows_of (place_of b) part.board w.tally.flat part.running b.beat xs

  abbrev after : Rowing Lists
  after = pick b.beat.head.kept (keep_rows lists rs before) before

  abbrev now : Walk Lists
  now = add_beat lists b.bar b.track b.voice b.beat w

  xs_are : xs ≡ notes_of tracks b es
  xs_are = rw (f.board b.track, f.frets b.track b.voice there few)

  rows_are : map seen_is rs ≡ rows_read tracks b es
  rows_are =
      rows_seen_lem (place_of b) part.board w.tally.flat part.running b.beat xs
      ∙ rw (xs_are, f.board b.track)

  beat_stands : Stands now.rows now.members now.tally.kept.members (page_of tracks (plays b ∷ es))
  unfolding add_beat
  beat_stands = go b.beat.head.kept
    where
      go : (t : Bool)
          → Stands (pick t (keep_rows lists rs before) before).rows (pick t (keep_rows lists rs before) before).members
          (pick t (keep_rows lists rs before) before).kept.members
          (pick t (page_of tracks es ++ rows_read tracks b es) (page_of tracks es))
      go true = rw rows_are at (keep_rows_stand rs before (page_of tracks es) f.stands)
      go false = f.stands

  -- ---- what the voices remember then
  frets_own : after.voice.frets ≡ remember memory.frets heard
  frets_own =
      pick_both (λ (k : Rowing Lists). k.voice.frets ≡ remember memory.frets heard) b.beat.head.kept
      (keep_rows lists rs before) before (keep_rows_frets rs before) refl

  abbrev voiced : List Part
  voiced = lists.put_voice b.track b.voice after.voice w.parts

  abbrev running : ℕ
  running = running_after lists part.running b.beat xs

  parts_after : now.parts ≡ lists.put_running b.track running voiced
  unfolding add_beat
  parts_after = refl

  voice_after_lem : (t v : ℕ) → voice_of v (get_or now.parts t no_part) ≡ voice_of v (get_or voiced t no_part)
  voice_after_lem t v =
      rw parts_after
      (change_kept (with_running running) no_part (voice_of v) (voice_running running v) voiced b.track t)

  board_after : (t : ℕ) → (get_or now.parts t no_part).board ≡ board_in tracks t
  board_after t =
      rw parts_after
      (change_kept (with_running running) no_part (λ p. p.board) (λ p. refl) voiced b.track t
      ∙ change_kept (with_voice b.voice after.voice) no_part (λ p. p.board) (board_voice b.voice after.voice)
      w.parts b.track t
      ∙ f.board t)

  own_after : after.voice.frets ≡ all_read own.strings.count b.track b.voice (plays b ∷ es)
  own_after =
      let same : of_voice b.track b.voice b ≡ true =
      rw (eq-eqb b.track b.track refl, eq-eqb b.voice b.voice refl) in
      frets_own
      ∙ rw (f.board b.track, f.frets b.track b.voice there few)
      (own_voice own b.track b.voice es b same)

  -- a voice of another part, or the other voice, remembers what it did
  others_after : (t v : ℕ) → t < length tracks → v < 2 → of_voice t v b ≡ false
      → voice_of v (get_or voiced t no_part) ≡ voice_of v (get_or w.parts t no_part)
      → (voice_of v (get_or voiced t no_part)).frets ≡ all_read (board_in tracks t).strings.count t v (plays b ∷ es)
  others_after t v h k e same = rw same (f.frets t v h k ∙ sym (other_voice (board_in tracks t) t v es b e))

  there_after : get_or voiced b.track no_part ≡ with_voice b.voice after.voice part
  there_after =
      change_there (with_voice b.voice after.voice) no_part w.parts b.track (omega (arith, f.parts))

  -- what a voice of a track remembers is what was last read there
  abbrev FretsRead : (t v : ℕ) → Type 0
  FretsRead t v = (voice_of v (get_or voiced t no_part)).frets ≡ all_read (board_in tracks t).strings.count t v (plays b ∷ es)

  own_read : FretsRead b.track b.voice
  own_read = rw (there_after, voice_there b.voice after.voice part) own_after

  frets_after : (t v : ℕ) → t < length tracks → v < 2
      → (voice_of v (get_or now.parts t no_part)).frets ≡ all_read (board_in tracks t).strings.count t v (plays b ∷ es)
  frets_after t v h k = rw (voice_after_lem t v) (go (eqb b.track t) refl (eqb b.voice v) refl)
    where
      go : (c : Bool) → eqb b.track t ≡ c → (d : Bool) → eqb b.voice v ≡ d
          → (voice_of v (get_or voiced t no_part)).frets ≡ all_read (board_in tracks t).strings.count t v (plays b ∷ es)
      go true p true q =
          subst (λ (n : ℕ). FretsRead n v) (eqb-true b.track t p)
          (subst (λ (n : ℕ). FretsRead b.track n) (eqb-true b.voice v q) own_read)
      go true p false q =
          let at : t ≡ b.track = sym (eqb-true b.track t p) in
          others_after t v h k (rw (p, q))
          (rw (at, there_after) (voice_other b.voice v after.voice part few k (eqb-false b.voice v q)))
      go false p d q =
          others_after t v h k (rw p)
          (ap (voice_of v)
          (change_other (with_voice b.voice after.voice) no_part w.parts b.track t (eqb-false b.track t p)))

  pub beat_walked : Walked tracks (plays b ∷ es) now
  beat_walked =
      let many : length now.parts ≡ length w.parts =
      rw parts_after (length-change (with_running running) voiced b.track
      ∙ length-change (with_voice b.voice after.voice) w.parts b.track) in
      record { parts = many ∙ f.parts; board = board_after; frets = frets_after; stands = beat_stands }
