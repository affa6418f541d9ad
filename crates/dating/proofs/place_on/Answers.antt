use Rattle.asking.proofs.Answers.{to_last}
use Rattle.dating.proofs.place_on.Goals as goal

pub returns-in-Egyptian : goal.returns-in-Egyptian
returns-in-Egyptian c = rw c.in-Egyptian.is (to_last _ _ c.requires c.plain_date.ensures)

pub returns-in-Armenian : goal.returns-in-Armenian
returns-in-Armenian c = rw c.in-Armenian.is (to_last _ _ c.requires c.plain_date-in-Armenian.ensures)

pub returns-in-Khwarizmian : goal.returns-in-Khwarizmian
returns-in-Khwarizmian c = rw c.in-Khwarizmian.is (to_last _ _ c.requires c.plain_date-in-Khwarizmian.ensures)

pub returns-in-Persian : goal.returns-in-Persian
returns-in-Persian c = rw c.in-Persian.is (to_last _ _ c.requires c.persian_date.ensures)

pub returns-in-Ethiopian : goal.returns-in-Ethiopian
returns-in-Ethiopian c = rw c.in-Ethiopian.is (to_last _ _ c.requires c.coptic_date.ensures)

pub returns-in-Coptic : goal.returns-in-Coptic
returns-in-Coptic c = rw c.in-Coptic.is (to_last _ _ c.requires c.coptic_date-in-Coptic.ensures)

pub returns-in-Republican : goal.returns-in-Republican
returns-in-Republican c = rw c.in-Republican.is c.republican_date.ensures

pub returns-in-Macedonian : goal.returns-in-Macedonian
returns-in-Macedonian c = rw c.in-Macedonian.is (to_last _ _ c.requires c.date_on.ensures)

pub returns-in-Syrian : goal.returns-in-Syrian
returns-in-Syrian c = rw c.in-Syrian.is (to_last _ _ c.requires c.date_on-in-Syrian.ensures)

pub returns-in-Julian : goal.returns-in-Julian
returns-in-Julian c = rw c.in-Julian.is (to_last _ _ c.requires c.date_on-in-Julian.ensures)

pub returns-in-Gregorian : goal.returns-in-Gregorian
returns-in-Gregorian c = rw c.in-Gregorian.is (to_last _ _ c.requires c.gregorian_date.ensures)

pub returns-in-IslamicA : goal.returns-in-IslamicA
returns-in-IslamicA c = rw c.in-IslamicA.is (to_last _ _ c.requires c.date_on-in-IslamicA.ensures)

pub returns-in-IslamicB : goal.returns-in-IslamicB
returns-in-IslamicB c = rw c.in-IslamicB.is (to_last _ _ c.requires c.date_on-in-IslamicB.ensures)

pub returns-in-Bahai : goal.returns-in-Bahai
returns-in-Bahai c = rw c.in-Bahai.is (to_last _ _ c.requires c.date_on-in-Bahai.ensures)

pub returns-in-Saka : goal.returns-in-Saka
returns-in-Saka c = rw c.in-Saka.is (to_last _ _ c.requires c.date_on-in-Saka.ensures)

pub returns-in-Hebrew : goal.returns-in-Hebrew
returns-in-Hebrew c = rw c.in-Hebrew.is c.date_on-in-Hebrew.ensures
