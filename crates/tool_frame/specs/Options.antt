-- Commands as clap is told of them, and what it finds in their words.
use Rattle.std.specs.Prelude.{◌≡◌, ℕ, ◌^◌, List, [], ◌∷◌, Bool, true, false, ◌&&◌, Option, Some, None, codes, if◌then◌else◌, nat_lt, option_map, option_and_then}
use Rattle.std.specs.List.{list_all}
use Rattle.std.specs.Option.{option_map_or}
use Rattle.std.specs.Str.{bytes_eq}
use Rattle.std.specs.Str.Parse.{digits_value, without_leading_plus}
use Rattle.clap.specs.ValueTests.{is_numeral}
use Rattle.clap.specs.Words.{App, Row, Rule, Text, matches_of, new_rule, takes, is_simple, is_simple_and_free}
use Rattle.clap.specs.Simple.{built}
use Rattle.clap.specs.Takes.{default_passes}
use Rattle.clap.specs.Faults.{has_free_rules}
use Rattle.clap.specs.declared.builder.ArgAction.TheVariants.{Set, SetTrue}
use Rattle.clap.specs.declared.builder.value_parser.ValueParser.TheVariants as vp

-- a text that has to be given
abbrev pub text_rule : Text → Rule
text_rule name = record (new_rule name) { required = true; action = Some Set }

-- a number from the least to the greatest that has to be given
abbrev pub number_rule : Text → ℕ → ℕ → Rule
number_rule name least greatest = record (new_rule name) { required = true; action = Some Set; parser = Some (vp.Unsigned least greatest) }

-- a text that may be given, by name
abbrev pub option_rule : Text → Rule
option_rule name = record (new_rule name) { long = Some name; action = Some Set }

-- a flag with no value
abbrev pub flag_rule : Text → Rule
flag_rule name = record (new_rule name) { long = Some name; action = Some SetTrue }

-- a command without subcommands, whose arguments have no rule on one another
pub record IsPlainApp (app : App) : Type 0 where
  pub simple : is_simple app ≡ true
  pub simple_and_free : is_simple_and_free app ≡ true
  pub alone : (built app).subs ≡ []
  pub defaults : list_all default_passes (built app).top.rules ≡ true
  pub rules : has_free_rules (built app).top ≡ true

-- the number that a text spells, as a reader of numbers below 2 ^ 64 takes it
abbrev pub number_of : Text → Option ℕ
number_of text = let n = digits_value 10 (without_leading_plus text) in if is_numeral (without_leading_plus text) && nat_lt n (2 ^ 64) then Some n else None

abbrev pub number_in : Option Text → Option ℕ
number_in None = None
number_in (Some text) = number_of text

-- the flag is given
abbrev pub is_flag_on : Option Text → Bool
is_flag_on text = option_map_or (λ t. bytes_eq t (codes "true")) text false

-- what clap finds in the words, where it takes them
unfoldable pub rows_taken : App → List Text → Option (List Row)
rows_taken app words = if takes app words then Some (matches_of app words) else None

-- what is read of it
abbrev pub taken : {A : Type 0} → App → (List Row → A) → List Text → Option A
taken app read words = option_map read (rows_taken app words)

-- what is read of it by a reader that may refuse a word which clap takes
abbrev pub taken_if : {A : Type 0} → App → (List Row → Option A) → List Text → Option A
taken_if app read words = option_and_then read (rows_taken app words)

-- the first word is this one
abbrev pub starts_with : Text → List Text → Bool
starts_with name [] = false
starts_with name (word ∷ words) = bytes_eq word name
