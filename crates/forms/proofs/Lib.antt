mod Gather
