-- The kinds of field, from bytes up: numbers, counts and the four kinds of string.
use Rattle.std.specs.Prelude.{ℕ, zero, suc, ◌+◌, ◌*◌, ◌-◌, Bool, leb}
use Rattle.format.specs.declared.Counted.{Counted}
use Rattle.format.specs.Text.{TextRead, pick}
use Rattle.format.specs.Count.{NEGATIVE}
use Rattle.format.specs.Step.{byte, pass, sign, text, counted, position}
use Rattle.format.specs.Prog.{Prog, ret, refuse, wrong_length, read, bind, when_le}

unfoldable pub u8 : Prog ℕ
u8 = read byte (λ b. ret b)

-- w bytes, the least first. A signed number is read as its two's complement
unfoldable pub number : ℕ → Prog ℕ
number zero = ret 0
number (suc w) = bind u8 (λ b. bind (number w) (λ r. ret (b + 256 * r)))

abbrev pub u16 : Prog ℕ
u16 = number 2

abbrev pub u32 : Prog ℕ
u32 = number 4

unfoldable pub skip : ℕ → Prog Unit
skip n = read (pass n) (λ _. ret tt)

-- whether a byte is 0 or more; its value is passed over (document 02, n)
unfoldable pub sign_byte : Prog Bool
sign_byte = read sign (λ b. ret b)

unfoldable pub text_bytes : ℕ → Prog TextRead
text_bytes n = read (text n) (λ t. ret t)

-- a number less one, and never below 0: the size of a string; a port, a channel, a lyric track and a lyric start (document 02, e)
unfoldable pub less_one : ℕ → ℕ
less_one v = pick (leb NEGATIVE v) 0 (v - 1)

-- a count: within its limit, or refused with its value and where it stands
unfoldable pub count : Counted → Prog ℕ
count which = read (counted which) (λ v. ret v)

-- where the next field stands; it has no bytes of its own (document 02, f)
unfoldable pub here : Prog ℕ
here = read position (λ at. ret at)

-- no text is longer
abbrev pub MAXSTRING : ℕ
MAXSTRING = 1048576

-- a length that is over the limit, or negative, is refused before its bytes are sought; then its bytes, kept or passed over
unfoldable pub string_of : ℕ → Prog TextRead
string_of n = when_le n MAXSTRING (text_bytes n) (refuse wrong_length)

unfoldable pub string_past : ℕ → Prog Unit
string_past n = when_le n MAXSTRING (skip n) (refuse wrong_length)

-- a length byte and a field of fixed width; its bytes past the stated length are passed over
unfoldable pub fixed_string : ℕ → Prog TextRead
fixed_string width =
    bind u8 (λ n. when_le n width (bind (text_bytes n) (λ t. bind (skip (width - n)) (λ _. ret t))) (text_bytes width))

-- a field size that is not used, a length byte, the text
unfoldable pub int_byte_string_unused : Prog TextRead
int_byte_string_unused = bind (skip 4) (λ _. bind u8 text_bytes)

unfoldable pub int_byte_string_unused_past : Prog Unit
int_byte_string_unused_past = bind (skip 4) (λ _. bind u8 skip)

-- a length, the text
unfoldable pub int_string : Prog TextRead
int_string = bind u32 string_of

-- a size, a length byte that is passed over, the text of size less one
unfoldable pub int_byte_string : Prog TextRead
int_byte_string = bind u32 (λ size. bind (skip 1) (λ _. string_of (less_one size)))

unfoldable pub int_byte_string_past : Prog Unit
int_byte_string_past = bind u32 (λ size. bind (skip 1) (λ _. string_past (less_one size)))
