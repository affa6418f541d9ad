-- The struct that C gets, as the answer of docs/RULES.md: field by field, under the same names.
use Rattle.computus.specs.Rule.{EasterAnswer}
use Rattle.c_easter.specs.declared.EasterFields.{EasterFields}

abbrev pub easter_fields : EasterFields → EasterAnswer
easter_fields x = record { number = x.number; month = x.month; day = x.day }
