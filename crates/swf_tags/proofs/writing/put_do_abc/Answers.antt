-- The pieces one after another.
use Rattle.std.proofs.Common.{append_assoc}
use Rattle.swf_tags.proofs.writing.put_do_abc.Goals as goal

pub returns : goal.returns
returns c =
    rw (c.in_ok-extend-2.ensures.ok, c.in_ok-extend.ensures.ok, c.in_ok-put_u32.ensures, c.in_ok-put_long_header.ensures)
    (simp append_assoc)
