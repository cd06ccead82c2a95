-- Words hold every entry of a score that a file of bytes gives.
use Rattle.std.specs.Prelude.{None, Some}
use Prim.Native.Nat.{ℕ, ◌-◌, ◌≤◌, ◌<◌}
use native.Mathlib.Omega.{arith}
use mathlib.Core.Path.{◌≡◌, refl, sym, ap, ◌∙◌}
use mathlib.Core.Bool.{Bool, true, false, ◌&&◌}
use mathlib.Core.List.{List, [], append-nil}
use borrow.Author.Tests.{leb-true}
use lib.Dec.{leb, eqb}
use lib.ListN.{length, get_or, take}
use lib.Seq.{take_at}
use Rattle.format.specs.Verdict.{LIMIT, up_to}
use Rattle.format.specs.Text.{pick}
use Rattle.format.specs.Prog.{Prog, ok, run}
use Rattle.format.specs.Yields.{Yields, Bytes}
use Rattle.format.proofs.Fits.{reads}
use Rattle.format.proofs.Verdict.{upto_bytes}
use Rattle.format.proofs.Yields.{yield_ret, yield_bind, yield_after, yield_turns}
use Rattle.model.specs.declared.Bar.{Bar}
use Rattle.model.specs.declared.Time.{Time}
use Rattle.model.proofs.Fits.{ProgramFits, TupletFits}
use Rattle.entries.proofs.Fits.{BarFits, TrackFits}
use Rattle.header.specs.declared.Header.{Header}
use Rattle.track.specs.declared.TrackHeader.{TrackHeader}
use Rattle.song.specs.Setup.{program_of, channel, no_port, next_channel, port, no_ports, next_port, channel_table}
use Rattle.track.specs.Track as T
use Rattle.beat.specs.Head.{tuplet_of, head_of, head}
use Rattle.beat.specs.Beat.{beat_notes, beat_by, beat}
use Rattle.score.proofs.Facts.{TimeFits, HeaderFacts, TrackFacts, common_time_lem, header_facts, track_facts, beat_facts}
use Rattle.score.specs.File.{Opening, opening, Timed, one_header, headers, one_track, tracks, one_beat, voice, bar_track, bar}
use Rattle.score.specs.File.{bars, score, file}
use Rattle.score.specs.Bars.{goes_on, bar_of}
use Rattle.score.specs.Page.{Heads, Staves, Walk, track_entry, part_of, no_bars, add_header, no_tracks, add_track, no_beats}
use Rattle.score.specs.Page.{keeping}
use Rattle.score.specs.Score.{Lists, lists, none, scored}
use Rattle.score.specs.Reading.{Score}
use Rattle.refine.proofs.All.{All, all_get_d, all_more, all_set, all_replicate}
use Rattle.refine.proofs.Heads.{range_fits, bar_fits, board_fits}
use Rattle.refine.proofs.Keeps.{go_on_fits}
use Rattle.refine.proofs.Parts.{Byte, PartFits, part_of_fits}
use Rattle.refine.proofs.Shown.{pick_both}
use Rattle.theorems.proofs.FitWalk.{WalkFits, enter_fits, beat_fits}
use Rattle.theorems.specs.Promise.{Beginning}

-- ---- programs: each is a byte

abbrev Programs : List (List ℕ) → Type 0
Programs ps = All (All Byte) ps

program_byte : (v : ℕ) → program_of v < 256
unfolding program_of
program_byte v = go (leb v 127) refl
  where
    go : (b : Bool) → leb v 127 ≡ b → pick b v 0 < 256
    go true e = omega (arith, leb-true v 127 e)
    go false e = omega arith

channel_facts : {s : List ℕ} {at : ℕ} → Yields s channel at (λ p _. p < 256)
unfolding channel
channel_facts = yield_after _ _ (λ v _ _. yield_after _ _ (λ _ _ _. yield_ret (program_byte v)))

port_facts : {s : List ℕ} {at : ℕ} → Yields s port at (λ ps _. All Byte ps)
unfolding port next_channel no_port
port_facts =
    yield_turns (λ ps _. All Byte ps) _
    (λ i ps m f. yield_bind _ channel_facts (λ p _ _ h. yield_ret (all_set Byte ps i p f h)))
    16 0 _ (all_replicate Byte 16 0 (omega arith))

programs_facts : {s : List ℕ} {at : ℕ} → Yields s channel_table at (λ t _. Programs t)
unfolding channel_table next_port no_ports no_port
programs_facts =
    yield_turns (λ t _. Programs t) _
    (λ i t m f. yield_bind _ port_facts (λ ps _ _ h. yield_ret (all_set (All Byte) t i ps f h)))
    4 0 _ (all_replicate (All Byte) 4 no_port (all_replicate Byte 16 0 (omega arith)))

song_programs : (s : List ℕ) (at : ℕ) → Yields s opening at (λ g _. Programs g.programs)
unfolding opening
song_programs s at =
    yield_after _ _ (λ _ _ _. yield_after _ _ (λ _ _ _. yield_after _ _ (λ _ _ _. yield_after _ _ (λ _ _ _.
    yield_after _ _ (λ _ _ _. yield_bind _ programs_facts (λ _ _ _ h.
    yield_after _ _ (λ _ _ _. yield_after _ _ (λ _ _ _. yield_ret h))))))))

-- ---- a track: its channel and its program besides what TrackFacts says

program_fits : (percussion : Bool) (programs : List (List ℕ)) (port channel : ℕ) → Programs programs
    → ProgramFits (T.channel_program percussion programs port channel)
unfolding T.channel_program
program_fits percussion programs port channel f =
    pick_both ProgramFits percussion None _ tt
    (all_get_d Byte (get_or programs port []) channel 0 (all_get_d (All Byte) programs port [] f tt) (omega arith))

sound_facts : {s : List ℕ} {at : ℕ} → Yields s T.sound at (λ w _. w.channel < 256)
unfolding T.sound T.numbered
sound_facts =
    yield_after _ _ (λ _ _ _. yield_after _ _ (λ c _ _. yield_after _ _ (λ _ _ _. yield_after _ _ (λ _ _ _.
    yield_after _ _ (λ _ _ _. yield_ret (omega arith))))))

track_sound : (s : List ℕ) (v : ℕ) (programs : List (List ℕ)) (at : ℕ) → Programs programs
    → Yields s (T.track v programs) at (λ u _. (u.channel < 256) × ProgramFits u.program)
unfolding T.track T.track_of
track_sound s v programs at f =
    yield_after _ _ (λ _ _ _. yield_after _ _ (λ _ _ _. yield_after _ _ (λ _ _ _.
    yield_bind _ sound_facts (λ _ _ _ h. yield_after _ _ (λ _ _ _. yield_ret (h, program_fits _ programs _ _ f))))))

track_fits : (s : List ℕ) (at n : ℕ) (u : TrackHeader) → length s ≤ LIMIT → TrackFacts s at u n → u.channel < 256
    → ProgramFits u.program → TrackFits (track_entry u)
unfolding track_entry
track_fits s at n u small f c p =
    let t = f.tunings.each in
    record {
      name = range_fits s u.name small f.name;
      tunings = record {
        strings = omega (arith, f.strings);
        first = omega (arith, t 0);
        second = omega (arith, t 1);
        third = omega (arith, t 2);
        fourth = omega (arith, t 3);
        fifth = omega (arith, t 4);
        sixth = omega (arith, t 5);
        seventh = omega (arith, t 6);
      };
      capo = omega (arith, f.capo);
      channel = c;
      program = p;
    }

-- ---- a beat's tuplet

tuplet_fits : (n : ℕ) → TupletFits (tuplet_of n)
unfolding tuplet_of
tuplet_fits n = go (eqb n 3) (leb 5 n) (leb n 7) (leb 9 n) (leb n 13) refl refl refl refl
  where
    go : (a b c d e : Bool) → leb 5 n ≡ b → leb n 7 ≡ c → leb 9 n ≡ d → leb n 13 ≡ e
        → TupletFits (pick a (Some (record { actual = 3; normal = 2 })) (pick (b && c) (Some (record { actual = n; normal = 4 })) (pick (d && e) (Some (record { actual = n; normal = 8 })) None)))
    go true b c d e i j k l = omega arith
    go false true true d e i j k l = omega (arith, leb-true 5 n i, leb-true n 7 j)
    go false true false true true i j k l = omega (arith, leb-true 9 n k, leb-true n 13 l)
    go false true false true false i j k l = tt
    go false true false false e i j k l = tt
    go false false c true true i j k l = omega (arith, leb-true 9 n k, leb-true n 13 l)
    go false false c true false i j k l = tt
    go false false c false e i j k l = tt

head_tuplet : {s : List ℕ} {at : ℕ} → Yields s head at (λ h _. TupletFits h.tuplet)
unfolding head head_of
head_tuplet =
    yield_after _ _ (λ _ _ _. yield_after _ _ (λ _ _ _. yield_after _ _ (λ _ _ _. yield_after _ _ (λ n _ _.
    yield_ret (tuplet_fits n)))))

beat_tuplet : (s : List ℕ) (v at : ℕ) → Yields s (beat v) at (λ x _. TupletFits x.head.tuplet)
unfolding beat beat_by beat_notes
beat_tuplet s v at =
    yield_after _ _ (λ _ _ _. yield_bind _ head_tuplet (λ h _ _ f. yield_after _ _ (λ _ _ _. yield_after _ _ (λ _ _ _.
    yield_after _ _ (λ _ _ _. yield_after _ _ (λ _ _ _. yield_after _ _ (λ _ _ _. yield_after _ _ (λ _ _ _. yield_after _ _ (λ _ _ _.
    yield_after _ _ (λ _ _ _. yield_ret f))))))))))

-- ---- the file, step by step

both : {A : Type 0} {s : List ℕ} {p : Prog A} {at : ℕ} {Q R : A → ℕ → Type 0} → Yields s p at Q → Yields s p at R
    → Yields s p at (λ a n. Q a n × R a n)
both f g = record { yields = λ l a n e. (f.yields l a n e, g.yields l a n e) }

pub record StavesFit (u : Staves Lists) : Type 0 where
  pub tracks : All TrackFits u.tracks
  pub parts : All PartFits u.parts

pub record ScoreFits (x : Score) : Type 0 where
  pub tracks : All TrackFits x.tracks.tracks
  pub walk : WalkFits x.bars

module _ (s : List ℕ) (small : length s ≤ LIMIT) (bytes : Bytes s) where
  abbrev HeadsFit : Timed (Heads Lists) → ℕ → Type 0
  HeadsFit x n = TimeFits x.time × All BarFits x.state.bars

  header_fits : (g : Opening) (b at n : ℕ) (time : Time) (h : Header) (x : Heads Lists) → HeaderFacts s at h n
      → All BarFits x.bars → All BarFits (add_header lists g b time h x).bars
  unfolding add_header
  header_fits g b at n time h x k f =
      let gone : List Bar = pick (goes_on x.before h) (lists.go_on (b - 1) x.bars) x.bars in
      all_more BarFits gone (bar_of g.directions b time h x.before)
      (pick_both (All BarFits) (goes_on x.before h) (lists.go_on (b - 1) x.bars) x.bars
      (go_on_fits (b - 1) x.bars f) f)
      (bar_fits s g.directions b at n time h x.before small k)

  headers_fit : (g : Opening) (at : ℕ) → Yields s (headers (keeping lists none) g) at HeadsFit
  unfolding headers one_header no_bars
  headers_fit g at =
      yield_turns HeadsFit _
      (λ b x m f. yield_bind _ (header_facts s bytes g.version x.time f.0 m) (λ h n _ k.
      yield_ret (k.time, header_fits g b m n x.time h x.state k f.1)))
      g.counts.bars 0 _ (common_time_lem, tt)

  tracks_fit : (g : Opening) (u : Staves Lists) (at : ℕ) → Programs g.programs → StavesFit u
      → Yields s (tracks (keeping lists none) g u) at (λ u _. StavesFit u)
  unfolding tracks one_track add_track
  tracks_fit g u at ps f =
      yield_turns (λ u _. StavesFit u) _
      (λ i u m f. yield_bind _
      (both (track_facts s g.version g.programs m) (track_sound s g.version g.programs m ps)) (λ t n _ k.
      yield_ret (record {
        tracks =
            all_more TrackFits u.tracks (track_entry t) f.tracks
            (track_fits s m n t small k.0 k.1.0 k.1.1);
        parts = all_more PartFits u.parts (part_of t) f.parts (part_of_fits t (board_fits s m n t k.0));
      })))
      g.counts.tracks 0 u f

  abbrev Fit : Walk Lists → ℕ → Type 0
  Fit w n = WalkFits w

  bars_fit : (g : Opening) (w : Walk Lists) (at : ℕ) → WalkFits w → Yields s (bars (keeping lists none) g w) at Fit
  unfolding bars bar bar_track voice one_beat
  bars_fit g w at f =
      yield_turns Fit _ (λ b w m f. yield_turns Fit _ (λ t w m f.
      yield_after _ _ (λ vs m _. yield_turns Fit _ (λ i w m f.
      yield_after _ _ (λ k m _. yield_turns Fit _ (λ j w m f.
      yield_bind _ (both (beat_facts s g.version m) (beat_tuplet s g.version m)) (λ x n _ h.
      yield_ret (beat_fits s small b t i m n x h.0 h.1 w f)))
      k 0 w f))
      vs 0 w f))
      g.counts.tracks 0 _ (enter_fits b w f))
      g.counts.bars 0 w f

  file_fits : Yields s scored 0 (λ x _. ScoreFits x)
  unfolding scored file score no_tracks no_beats
  file_fits =
      yield_bind _ (song_programs s 0) (λ g m _ ps.
      yield_bind _ (headers_fit g m) (λ h m _ f.
      yield_bind _ (tracks_fit g _ m ps (record { tracks = tt; parts = tt })) (λ u m _ k.
      yield_bind _
      (bars_fit g _ m (record {
        bars = f.1;
        rows = tt;
        members = tt;
        points = tt;
        texts = tt;
        parts = k.parts;
        point_room = omega arith;
        text_room = omega arith;
      }))
      (λ w _ _ q. yield_ret (record { tracks = k.tracks; walk = q })))))

pub score_fits : {d : List ℕ} {x : Score} {n : ℕ} → Bytes d → Beginning d x n → ScoreFits x
unfolding up_to
score_fits {d} {x} {n} bytes b =
    let f = b.begins in
    let l : List ℕ = f.0 in
    let cut : take n d ≡ l = ap (take n) f.2 ∙ take_at l f.1 n f.3 in
    let is : run scored l 0 ≡ ok x n = (reads scored l x n).1 (l, [], sym (append-nil l), f.3, f.4) in
    (file_fits l (omega (arith, f.3, b.limit)) (rw cut at (upto_bytes n d bytes))).yields (omega arith) x n is
