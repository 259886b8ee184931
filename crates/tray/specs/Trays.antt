-- What a tray means. Assumes nothing.
use Rattle.letters.specs.Mail.{Mail}
use Rattle.tray.specs.declared.Tray.{Tray}

-- the letters that it holds, and a place for each slot
abbrev pub tray_mail : {L : Type 0} → Tray L → Mail L
tray_mail t = record { letters = t.letters.items; places = t.letters.places }
