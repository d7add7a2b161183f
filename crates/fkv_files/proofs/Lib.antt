mod Mirrored
