-- What a reader's answer says: the value with the place after it, or the refusal by its number.
use Rattle.std.specs.Prelude.{Result, Ok, Err, ℕ}
use Rattle.format.specs.declared.field.Cursor.{Cursor}
use Rattle.format.specs.declared.refusal.Refusal.{Refusal}
use Rattle.format.specs.declared.refusal.ReadRefusal.{ReadRefusal}
use Rattle.format.specs.Parse.{Parse, ok, fault}
use Rattle.format.specs.Refusals.{refusal_number}

abbrev pub parse_of : {T : Type 0} → Result (T × Cursor) ReadRefusal → Parse T
parse_of (Ok r) = ok r.0 r.1.at
parse_of (Err e) = fault (refusal_number e.refusal) e.place

-- what a whole input is refused with: it is over its size, and it has bytes left from a place on
abbrev pub too_long : ReadRefusal
too_long = record { refusal = Refusal.TooLong; place = 0 }

abbrev pub extra_at : ℕ → ReadRefusal
extra_at at = record { refusal = Refusal.Extra; place = at }
