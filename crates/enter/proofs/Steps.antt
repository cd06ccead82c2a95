-- A beat entered step by step is the beat entered.
use Prim.Native.Nat.{ℕ}
use mathlib.Core.Path.{◌≡◌, ap, ◌∙◌}
use mathlib.Core.List.{List}
use mathlib.Core.Bool.{Bool}
use Rattle.model.specs.declared.RowPlace.{RowPlace}
use Rattle.beat.specs.Beat.{BeatIs}
use Rattle.model.specs.declared.Key.{Key}
use Rattle.score.specs.Bars.{flat_after}
use Rattle.score.specs.declared.Fretboard.{Fretboard}
use Rattle.score.specs.declared.KeptCounts.{KeptCounts}
use Rattle.score.specs.declared.Voice.{Voice}
use Rattle.score.specs.declared.Tally.{Tally}
use Rattle.score.specs.Sounding.{sounding}
use Rattle.score.specs.Members.{Keyed, in_order}
use Rattle.score.specs.Page.{keep_beat, running_after, beat_losses, report, add_beat, enter_bar}
use Rattle.draft.specs.Chord.{heard_by}
use Rattle.words.specs.Words.{words, key_words}
use Rattle.words.specs.Meant.{rowing_of, walk_of}
use Rattle.enter.specs.Steps.{Sounded, sounded_of, sounded, rowing, texts_with, count_with, tallied, with_rooms}

module _ (s : List ℕ) (place : RowPlace) (flat : Bool) (b : BeatIs) (kept : KeptCounts) (rows members points parts : List ℕ) where
  pub sounds : {board : Fretboard} {memory read voice : Voice} {running after : ℕ} {chord : List Keyed}
      {kept2 : KeptCounts} {rows2 members2 points2 parts2 parts3 : List ℕ}
      → board ≡ (words s).board_at place.track parts → memory ≡ (words s).voice_at place.track place.voice parts → running ≡ (words s).running_at place.track parts
      → chord ≡ in_order board (sounding board memory.frets b) → read ≡ heard_by board memory b
      → rowing_of rows2 members2 points2 kept2 voice ≡ keep_beat (words s) place board flat running b chord (rowing_of rows members points kept read)
      → parts2 ≡ (words s).put_voice place.track place.voice voice parts → after ≡ running_after (words s) running b chord → parts3 ≡ (words s).put_running place.track after parts2
      → sounded_of rows2 members2 points2 parts3 kept2 chord ≡ sounded s place flat b kept rows members points parts
  unfolding sounded
  sounds {board} {memory} {read} {voice} {running} {after} {chord} {kept2} {rows2} {members2} {points2} {parts2} {parts3} e1 e2 e3 e4 e5 e6 e7 e8 e9 =
      let g : rowing_of rows2 members2 points2 kept2 voice ≡ rowing s place flat b kept rows members points parts = e6 ∙ rw (e5, e4, e2, e1, e3) in
      let v : voice ≡ (rowing s place flat b kept rows members points parts).voice = ap (λ r. r.voice) g in
      let h : chord ≡ in_order ((words s).board_at place.track parts) (sounding ((words s).board_at place.track parts) ((words s).voice_at place.track place.voice parts).frets b) = e4 ∙ rw (e2, e1) in
      let q : parts3 ≡ (sounded s place flat b kept rows members points parts).parts = e9 ∙ rw (e8, e7, v, h, e3) in
      λ i. sounded_of (g i).rows (g i).members (g i).points (q i) (g i).kept (h i)

module _ (s : List ℕ) (place : RowPlace) (b : BeatIs) (tally : Tally) (bars rows members points texts parts : List ℕ) where
  pub adds : {kept : KeptCounts} {chord : List Keyed} {count : ℕ} {tally2 : Tally} {lost2 bars2 rows2 members2 points2 texts2 parts2 : List ℕ}
      → sounded_of rows2 members2 points2 parts2 kept chord ≡ sounded s place tally.flat b tally.kept rows members points parts
      → texts2 ≡ texts_with s place b tally.texts texts → count ≡ count_with s place b tally.texts texts
      → bars2 ≡ (words s).tempo_at place.bar b.mix.tempo bars → lost2 ≡ report (words s) (beat_losses (words s) b chord) tally.losses
      → tally2 ≡ with_rooms s b (tallied kept count lost2 tally)
      → walk_of bars2 rows2 members2 points2 texts2 parts2 tally2
      ≡ add_beat (words s) place.bar place.track place.voice b (walk_of bars rows members points texts parts tally)
  unfolding sounded add_beat with_rooms
  adds {kept} {chord} {count} e1 e2 e3 e4 e5 e6 =
      let k : kept ≡ _ = ap (λ (x : Sounded). x.kept) e1 in
      let h : chord ≡ _ = ap (λ (x : Sounded). x.chord) e1 in
      λ i. walk_of (e4 i) (e1 i).rows (e1 i).members (e1 i).points (e2 i) (e1 i).parts
      ((e6 ∙ (λ j. with_rooms s b (tallied (k j) (e3 j) ((e5 ∙ (λ j. report (words s) (beat_losses (words s) b (h j)) tally.losses)) j) tally))) i)

-- a bar is entered: of the tally the flats alone change
module _ (s : List ℕ) (bar : ℕ) (bars rows members points texts parts : List ℕ) (t : Tally) where
  pub enters : {key : Key} {flat : Bool} → key ≡ key_words bar bars → flat ≡ flat_after t.flat key
      → walk_of bars rows members points texts parts (record { kept = t.kept; texts = t.texts; text_room = t.text_room; point_room = t.point_room; flat = flat; losses = t.losses })
      ≡ enter_bar (words s) bar (walk_of bars rows members points texts parts t)
  unfolding enter_bar
  enters k f =
      λ i. walk_of bars rows members points texts parts
      (record { kept = t.kept; texts = t.texts; text_room = t.text_room; point_room = t.point_room; flat = (f ∙ (λ j. flat_after t.flat (k j))) i; losses = t.losses })
