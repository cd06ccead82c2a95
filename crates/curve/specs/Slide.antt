-- What the slide byte of a note says.
use Rattle.std.specs.Prelude.{ℕ, ◌-◌, ◌&&◌, ◌||◌, eqb, ltb}
use Rattle.format.specs.Text.{pick}
use Rattle.format.specs.Prog.{has}
use Rattle.curve.specs.declared.slide.SlideEffect.{SlideEffect}

-- the byte that stands for n below zero
abbrev minus : ℕ → ℕ
minus n = 256 - n

-- From v500: bits 0x04 falloff, 0x08 doit, 0x10 scoop, 0x20 plop; either of the two low bits a shift or legato slide; bits 0xC0 a loss (docs/RULES.md 27).
abbrev pub bits_slide : ℕ → SlideEffect
bits_slide bits = record {
  slide = has bits 0x03;
  falloff = has bits 0x04;
  doit = has bits 0x08;
  scoop = has bits 0x10;
  plop = has bits 0x20;
  lost = has bits 0xC0;
}

-- Before v500: kinds 1 and 2 a shift or legato slide, 3 falloff, 4 doit, -1 scoop, -2 plop; a kind outside -2..4 a loss (docs/RULES.md 27).
abbrev pub kind_slide : ℕ → SlideEffect
kind_slide kind = record {
  slide = eqb kind 1 || eqb kind 2;
  falloff = eqb kind 3;
  doit = eqb kind 4;
  scoop = eqb kind (minus 1);
  plop = eqb kind (minus 2);
  lost = ltb 4 kind && ltb kind (minus 2);
}

-- by the file's version
unfoldable pub slide_of : (version byte : ℕ) → SlideEffect
slide_of version byte = pick (ltb version 500) (kind_slide byte) (bits_slide byte)
