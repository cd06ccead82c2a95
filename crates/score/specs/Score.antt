-- The six tables as lists of entries: what a whole file gives.
use Rattle.std.specs.Prelude.{ℕ, zero, suc, ◌+◌, List, [], ◌∷◌, ◌++◌, Bool, true, false, ◌&&◌, get_or, eqb, None, Option, Some}
use Rattle.format.specs.Text.{pick, no_text}
use Rattle.tables.specs.Table.{change}
use Rattle.model.specs.declared.Member.{Member}
use Rattle.model.specs.declared.Finger.TheVariants.{NoFinger}
use Rattle.model.specs.declared.TabPosition.{TabPosition}
use Rattle.model.specs.declared.Technique.TheVariants.{PullOff}
use Rattle.entries.specs.Changed.{with_place, with_tempo, with_technique, with_ottava_end, with_tie_start}
use Rattle.track.specs.Track.{no_track}
use Rattle.score.specs.declared.Part.{Part}
use Rattle.score.specs.declared.Voice.{Voice}
use Rattle.score.specs.File.{Whole, file}
use Rattle.score.specs.Bars.{followed, no_bar}
use Rattle.score.specs.Page.{Kind, Entry, TextIs, Operations, Staves, Walk, part_of, keeping}
use Rattle.format.specs.Prog.{Prog}

abbrev pub Lists : Kind → Type 0
Lists k = List (Entry k)

-- the first tempo of 1..999 in a bar stays
abbrev pub first_tempo : Option ℕ → Option ℕ → Option ℕ
first_tempo None t = t
first_tempo (Some n) t = Some n

-- on tablature at the same string, otherwise at the first member of equal key
abbrev pub same_place : Option TabPosition → Option TabPosition → Bool → Bool
same_place (Some a) (Some b) by_key = eqb a.string b.string
same_place (Some a) None by_key = false
same_place None (Some b) by_key = by_key
same_place None None by_key = by_key

abbrev pub answers : Member → Member → Bool
answers tied m = same_place tied.position m.position (eqb tied.key m.key)

abbrev pub no_member : Member
no_member =
    record { key = 0; flat = false; position = None; ghosted = false; ties = record { end = false; start = false }; finger = NoFinger }

-- count members, from number i on
abbrev pub start_first : (i count : ℕ) → Member → List Member → List Member
start_first i zero tied ms = ms
start_first i (suc k) tied ms = pick (answers tied (get_or ms i no_member)) (change (with_tie_start true) ms i) (start_first (i + 1) k tied ms)

-- texts are equal when their bytes are (docs/RULES.md 28)
abbrev pub same_bytes : List ℕ → List ℕ → Bool
same_bytes [] [] = true
same_bytes [] (y ∷ ys) = false
same_bytes (x ∷ xs) [] = false
same_bytes (x ∷ xs) (y ∷ ys) = eqb x y && same_bytes xs ys

abbrev pub same_bar : TextIs → TextIs → Bool
same_bar t u = eqb t.bar u.bar && eqb t.track u.track

abbrev pub no_words : TextIs
no_words = record { bar = 0; track = 0; text = no_text }

-- texts stand in beat order, so those of a bar and track are the last: gone through from the last back
abbrev pub entered_in : ℕ → TextIs → List TextIs → Bool
entered_in zero t ts = false
entered_in (suc i) t ts =
    pick (same_bar t (get_or ts i no_words)) (pick (same_bytes t.text.bytes (get_or ts i no_words).text.bytes) true (entered_in i t ts)) false

abbrev pub no_part : Part
no_part = part_of no_track

abbrev pub voice_of : ℕ → Part → Voice
voice_of zero p = p.first
voice_of (suc n) p = p.second

abbrev pub with_voice : ℕ → Voice → Part → Part
with_voice zero v p = record { board = p.board; running = p.running; first = v; second = p.second }
with_voice (suc n) v p = record { board = p.board; running = p.running; first = p.first; second = v }

abbrev pub with_running : ℕ → Part → Part
with_running n p = record { board = p.board; running = n; first = p.first; second = p.second }

abbrev pub lists : Operations Lists
lists =
    record {
      plus = λ a b. a + b;
      add = λ k n e es. es ++ (e ∷ []);
      go_on = λ i bs. change (λ b. with_place (followed b.place) b) bs i;
      key_at = λ i bs. (get_or bs i no_bar).key;
      tempo_at = λ i t bs. change (λ b. with_tempo (first_tempo b.tempo t) b) bs i;
      pull_off = λ i rs. change (with_technique PullOff) rs i;
      carry_on = λ i rs. change (with_ottava_end false) rs i;
      start_tie = λ span m ms. start_first span.first span.count m ms;
      entered = entered_in;
      board_at = λ t ps. (get_or ps t no_part).board;
      voice_at = λ t v ps. voice_of v (get_or ps t no_part);
      put_voice = λ t v x ps. change (with_voice v x) ps t;
      running_at = λ t ps. (get_or ps t no_part).running;
      put_running = λ t n ps. change (with_running n) ps t;
    }

abbrev pub none : (k : Kind) → Lists k
none k = []

-- a whole file, with what is kept of it
unfoldable pub scored : Prog (Whole (Staves Lists) (Walk Lists))
scored = file (keeping lists none)
