use Rattle.std.proofs.Common.{◌+◌, ◌*◌}
use Rattle.ssz_checking.proofs.SoundLemmas.{SoundFrom}
use Rattle.ssz_checking.proofs.sound.+sound.Given as goal

abbrev pub decreases-sound_count : goal.decreases-sound_count
decreases-sound_count l = 2 * l.id + 1

abbrev pub decreases-sound_fields : goal.decreases-sound_fields
decreases-sound_fields l = 2 * l.id

abbrev pub invariant-sound_fields-loop-field : goal.invariant-sound_fields-loop-field
invariant-sound_fields-loop-field l =
    SoundFrom l.schema.trees l.fields l.row.step l.row.count l.bytes l.fn.place l.field-index
    l.place l.count
