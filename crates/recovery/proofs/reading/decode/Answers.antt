use Rattle.std.proofs.Common.{rules}
use Rattle.recovery.specs.inside.Reading.{new_at, set_at, remove_at, move_at, clear_at, lost_at, ids_at, session_at}
use Rattle.recovery.proofs.Again.{found_by, unread, following_first, first_and_rest, session_again, new_again, set_again, remove_again, move_again, clear_again, lost_again, ids_again}
use Rattle.recovery.proofs.Sound.{sound_by, new_sound, set_sound, remove_sound, move_sound, clear_sound, lost_sound, ids_sound}
use Rattle.recovery.proofs.reading.decode.Goals as goal

pub returns-in-2-clause-op : goal.returns-in-2-clause-op
returns-in-2-clause-op c = sound_by 2 new_at new_sound c.args.bytes.now (following_first c.args.bytes.now) (first_and_rest c.args.bytes.now 2 c.in-len1-up.len_at_least c.in-2.is) (search rules) _ c.new_of.ensures.read

pub returns-in-2-clause-unreadable : goal.returns-in-2-clause-unreadable
returns-in-2-clause-unreadable c wrong o payload = unread _ o wrong (found_by 2 new_at new_again c.args.bytes.now (following_first c.args.bytes.now) (first_and_rest c.args.bytes.now 2 c.in-len1-up.len_at_least c.in-2.is) _ c.new_of.ensures.read o payload)

pub returns-in-3-clause-op : goal.returns-in-3-clause-op
returns-in-3-clause-op c = sound_by 3 set_at set_sound c.args.bytes.now (following_first c.args.bytes.now) (first_and_rest c.args.bytes.now 3 c.in-len1-up.len_at_least c.in-3.is) (search rules) _ c.set_of.ensures.read

pub returns-in-3-clause-unreadable : goal.returns-in-3-clause-unreadable
returns-in-3-clause-unreadable c wrong o payload = unread _ o wrong (found_by 3 set_at set_again c.args.bytes.now (following_first c.args.bytes.now) (first_and_rest c.args.bytes.now 3 c.in-len1-up.len_at_least c.in-3.is) _ c.set_of.ensures.read o payload)

pub returns-in-4-clause-op : goal.returns-in-4-clause-op
returns-in-4-clause-op c = sound_by 4 remove_at remove_sound c.args.bytes.now (following_first c.args.bytes.now) (first_and_rest c.args.bytes.now 4 c.in-len1-up.len_at_least c.in-4.is) (search rules) _ c.remove_of.ensures.read

pub returns-in-4-clause-unreadable : goal.returns-in-4-clause-unreadable
returns-in-4-clause-unreadable c wrong o payload = unread _ o wrong (found_by 4 remove_at remove_again c.args.bytes.now (following_first c.args.bytes.now) (first_and_rest c.args.bytes.now 4 c.in-len1-up.len_at_least c.in-4.is) _ c.remove_of.ensures.read o payload)

pub returns-in-5-clause-op : goal.returns-in-5-clause-op
returns-in-5-clause-op c = sound_by 5 move_at move_sound c.args.bytes.now (following_first c.args.bytes.now) (first_and_rest c.args.bytes.now 5 c.in-len1-up.len_at_least c.in-5.is) (search rules) _ c.move_of.ensures.read

pub returns-in-5-clause-unreadable : goal.returns-in-5-clause-unreadable
returns-in-5-clause-unreadable c wrong o payload = unread _ o wrong (found_by 5 move_at move_again c.args.bytes.now (following_first c.args.bytes.now) (first_and_rest c.args.bytes.now 5 c.in-len1-up.len_at_least c.in-5.is) _ c.move_of.ensures.read o payload)

pub returns-in-6-clause-op : goal.returns-in-6-clause-op
returns-in-6-clause-op c = sound_by 6 clear_at clear_sound c.args.bytes.now (following_first c.args.bytes.now) (first_and_rest c.args.bytes.now 6 c.in-len1-up.len_at_least c.in-6.is) (search rules) _ c.clear_of.ensures.read

pub returns-in-6-clause-unreadable : goal.returns-in-6-clause-unreadable
returns-in-6-clause-unreadable c wrong o payload = unread _ o wrong (found_by 6 clear_at clear_again c.args.bytes.now (following_first c.args.bytes.now) (first_and_rest c.args.bytes.now 6 c.in-len1-up.len_at_least c.in-6.is) _ c.clear_of.ensures.read o payload)

pub returns-in-8-clause-op : goal.returns-in-8-clause-op
returns-in-8-clause-op c = sound_by 8 lost_at lost_sound c.args.bytes.now (following_first c.args.bytes.now) (first_and_rest c.args.bytes.now 8 c.in-len1-up.len_at_least c.in-8.is) (search rules) _ c.lost_of.ensures.read

pub returns-in-8-clause-unreadable : goal.returns-in-8-clause-unreadable
returns-in-8-clause-unreadable c wrong o payload = unread _ o wrong (found_by 8 lost_at lost_again c.args.bytes.now (following_first c.args.bytes.now) (first_and_rest c.args.bytes.now 8 c.in-len1-up.len_at_least c.in-8.is) _ c.lost_of.ensures.read o payload)

pub returns-in-9-clause-op : goal.returns-in-9-clause-op
returns-in-9-clause-op c = sound_by 9 ids_at ids_sound c.args.bytes.now (following_first c.args.bytes.now) (first_and_rest c.args.bytes.now 9 c.in-len1-up.len_at_least c.in-9.is) (search rules) _ c.ids_of.ensures.read

pub returns-in-9-clause-unreadable : goal.returns-in-9-clause-unreadable
returns-in-9-clause-unreadable c wrong o payload = unread _ o wrong (found_by 9 ids_at ids_again c.args.bytes.now (following_first c.args.bytes.now) (first_and_rest c.args.bytes.now 9 c.in-len1-up.len_at_least c.in-9.is) _ c.ids_of.ensures.read o payload)

pub returns-in-1-clause-unreadable : goal.returns-in-1-clause-unreadable
returns-in-1-clause-unreadable c wrong o payload =
    c.as_written.ensures.unreadable (found_by 1 session_at session_again c.args.bytes.now (following_first c.args.bytes.now) (first_and_rest c.args.bytes.now 1 c.in-len1-up.len_at_least c.in-1.is) _ c.session_of.ensures.read) wrong o payload
